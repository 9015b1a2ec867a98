-- Numbers that a derivation lists are those of records.
use mathlib.Core.Path.{◌≡◌, refl, subst}
use mathlib.Core.Logic.{◌⊎◌, inl, inr}
use mathlib.Core.Bool.{Bool, true, false}
use mathlib.Core.List.{List, [], ◌∷◌}
use Prim.Native.Nat.{ℕ, zero, suc, ◌<◌, ◌≤◌}
use native.Mathlib.Omega.{arith}
use lib.ListN.{length}
use Rattle.rules.specs.Choice.{pick}
use Rattle.rules.specs.Lists.{At, ◌▷◌, In, keep}
use Rattle.rules.specs.Tables.{Asked, NameTable, Table}
use Rattle.rules.specs.Sheets.{entry}
use Rattle.rules.specs.Access.{Chain, first, next, Name, Meaning, setting_by}
use Rattle.rules.specs.Derivations.{OrderedAfter}
use Rattle.rules.specs.declared.Space.{Space}
use Rattle.rules.proofs.ListsLaws.{in_snoc}
use Rattle.decision.specs.Showing.{AllWritten}

-- ---- lists
at_in : (l : List ℕ) (i x : ℕ) → At l i x → In l x
at_in [] i x a = absurd (omega (arith, a.there))
at_in (y ∷ l) zero x a = inl a.is
at_in (y ∷ l) (suc i) x a = inr (at_in l i x (record { there = omega (arith, a.there); is = a.is }))

entry_in : (l : List ℕ) (i : ℕ) → i < length l → In l (entry l i)
entry_in [] i h = absurd (omega arith)
entry_in (y ∷ l) zero h = inl refl
entry_in (y ∷ l) (suc i) h = inr (entry_in l i (omega arith))

pub all_below : (l : List ℕ) (n : ℕ) → ((x : ℕ) → In l x → x < n) → (i x : ℕ) → At l i x → x < n
all_below l n f i x a = f x (at_in l i x a)

pub keep_few : (f : ℕ → Bool) (l : List ℕ) → length (keep f l) ≤ length l
keep_few f [] = omega arith
keep_few f (x ∷ l) = go (f x) (keep_few f l)
  where
    go : (b : Bool) → length (keep f l) ≤ length l → length (pick b (x ∷ keep f l) (keep f l)) ≤ suc (length l)
    go true h = omega (arith, h)
    go false h = omega (arith, h)

-- ---- bindings that are listed in order
pub ordered_below : (t : NameTable) (before L : List ℕ) → OrderedAfter t before L → (i : ℕ) → In L i → i < length t.bindings
ordered_below t before [] o i h = absurd h
ordered_below t before (j ∷ L) o i (inl e) = subst (λ (y : ℕ). y < length t.bindings) e o.0.at.there
ordered_below t before (j ∷ L) o i (inr h) = ordered_below t (before ▷ j) L o.1 i h

-- ---- a chain
module _ (M : Meaning) (t : Table) (q : Asked Space) where
  pub chain_listed : {i d : ℕ} {c : List ℕ} {n : Name} → Chain (setting_by M t q) i c n d → i < length t.accesses
  chain_listed (first x) = x.at.there
  chain_listed (next x m w s) = chain_listed x

  pub chain_written : {i d : ℕ} {c : List ℕ} {n : Name} → Chain (setting_by M t q) i c n d → (j : ℕ) → In c j → j < length t.delegations
  chain_written (first x) j h = absurd h
  chain_written (next {j = l} {c = c} x m w s) j h = go (in_snoc c l j h) (λ y. chain_written x j y)
    where
      go : In c j ⊎ (l ≡ j) → (In c j → j < length t.delegations) → j < length t.delegations
      go (inl y) f = f y
      go (inr e) f = subst (λ (y : ℕ). y < length t.delegations) e w.at.there

  pub chain_all_written : {i d : ℕ} {c : List ℕ} {n : Name} → Chain (setting_by M t q) i c n d → AllWritten t c
  chain_all_written {c = c} x = record { written = λ i h. chain_written x (entry c i) (entry_in c i h) }
