-- Adding marks: none, one, one lot after another.
use mathlib.Core.Path.{◌≡◌, sym, ◌∙◌, ap}
use mathlib.Core.Logic.{◌⊎◌, inl, inr, ◌↔◌}
use mathlib.Core.Bool.{Bool, true, false}
use mathlib.Core.List.{List}
use Prim.Native.Nat.{ℕ, ◌<◌}
use native.Mathlib.Decide.{ℕ_discrete}
use lib.ListN.{length, set}
use lib.Seq.{get_or-set_same, get_or-set_other}
use Rattle.marking.specs.Marks.{marked, Adds}

pub adds_none : {P : ℕ → Type 0} (m : List Bool) → ((i : ℕ) → P i → ⊥) → Adds P m m
adds_none m none = record { kept = λ i h. h; added = λ i w. absurd (none i w); only = λ i h. inl h }

pub adds_one : (m : List Bool) (i : ℕ) → i < length m → Adds (λ (j : ℕ). i ≡ j) m (set m i true)
adds_one m i h = record { kept = λ j e. kept j e (ℕ_discrete j i); added = λ j e. same j (sym e); only = λ j e. only j e (ℕ_discrete j i) }
  where
    same : (j : ℕ) → j ≡ i → marked (set m i true) j ≡ true
    same j e = ap (marked (set m i true)) e ∙ get_or-set_same m i true false h

    kept : (j : ℕ) → marked m j ≡ true → Dec (j ≡ i) → marked (set m i true) j ≡ true
    kept j e (yes q) = same j q
    kept j e (no n) = get_or-set_other m i j true false n ∙ e

    only : (j : ℕ) → marked (set m i true) j ≡ true → Dec (j ≡ i) → (marked m j ≡ true) ⊎ (i ≡ j)
    only j e (yes q) = inr (sym q)
    only j e (no n) = inl (sym (get_or-set_other m i j true false n) ∙ e)

pub adds_then : {P Q : ℕ → Type 0} {a b c : List Bool} → Adds P a b → Adds Q b c → Adds (λ (i : ℕ). P i ⊎ Q i) a c
adds_then {P} {Q} {a} {b} {c} f g = record { kept = λ i h. g.kept i (f.kept i h); added = added; only = λ i h. only i (g.only i h) }
  where
    added : (i : ℕ) → P i ⊎ Q i → marked c i ≡ true
    added i (inl w) = g.kept i (f.added i w)
    added i (inr w) = g.added i w

    first : (i : ℕ) → (marked a i ≡ true) ⊎ P i → (marked a i ≡ true) ⊎ (P i ⊎ Q i)
    first i (inl h) = inl h
    first i (inr w) = inr (inl w)

    only : (i : ℕ) → (marked b i ≡ true) ⊎ Q i → (marked a i ≡ true) ⊎ (P i ⊎ Q i)
    only i (inl h) = first i (f.only i h)
    only i (inr w) = inr (inr w)

pub adds_as : {P Q : ℕ → Type 0} {a b : List Bool} → ((i : ℕ) → P i ↔ Q i) → Adds P a b → Adds Q a b
adds_as {P} {Q} {a} {b} same f = record { kept = f.kept; added = λ i w. f.added i ((same i).1 w); only = λ i h. only i (f.only i h) }
  where
    only : (i : ℕ) → (marked a i ≡ true) ⊎ P i → (marked a i ≡ true) ⊎ Q i
    only i (inl h) = inl h
    only i (inr w) = inr ((same i).0 w)
