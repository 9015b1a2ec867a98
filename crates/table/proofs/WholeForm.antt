-- All of the bytes have one form where the records in them have, whatever is told of their places.
use mathlib.Core.Path.{◌≡◌, refl, sym, ◌∙◌, ap, subst}
use mathlib.Core.Bool.{Bool, true, false}
use mathlib.Core.List.{List, [], append-nil}
use Prim.Native.Nat.{ℕ, ◌≤◌}
use native.Mathlib.Nat.{zero-add}
use native.Mathlib.Omega.{arith}
use lib.Dec.{eqb, leb}
use lib.ListN.{length}
use borrow.Author.Tests.{eqb-true, leb-true}
use Rattle.rules.specs.Choice.{pick}
use Rattle.wire.specs.Number.{Bytes}
use Rattle.records.specs.Parsed.{Parsed, got, bad, Reader, fault_at, ◌⟫◌}
use Rattle.records.specs.declared.faults.Kind.TheVariants as kind
use Rattle.records.proofs.ParsedLaws.{then_got, got_then}
use Rattle.records.proofs.FormatLaws.{Format, Stood}
use Rattle.records.proofs.RequestsForm.{whole_stood}
use Rattle.table.specs.Sections.{all_of}
use Rattle.table.proofs.SectionsLaws.{all_got}

-- What was found in all of the bytes.
pub all_form : {A : Type 0} (P : Reader A) (most : ℕ) (s : List ℕ) (x : A) (end : ℕ) → all_of most P s ≡ got x end → (length s ≤ most) × (P s 0 ≡ got x end) × (end ≡ length s)
unfolding all_of
all_form {A} P most s x end e = short (leb (length s) most) refl e
  where
    ended : length s ≤ most → (y : A) × (at : ℕ) × (P s 0 ≡ got y at) × (pick (eqb at (length s)) (got y at) (bad (fault_at kind.Extra at)) ≡ got x end) → (length s ≤ most) × (P s 0 ≡ got x end) × (end ≡ length s)
    ended h (y, at, p, q) = go (eqb at (length s)) refl q
      where
        go : (b : Bool) → eqb at (length s) ≡ b → pick b (got y at) (bad (fault_at kind.Extra at)) ≡ got x end → (length s ≤ most) × (P s 0 ≡ got x end) × (end ≡ length s)
        go true r g = let u : at ≡ end = cc in (h, p ∙ g, sym u ∙ eqb-true at (length s) r)
        go false r g = let z : ◌≡◌ {A = ℕ} 0 1 = cc in absurd (omega arith)

    short : (b : Bool) → leb (length s) most ≡ b
        → pick b (P s 0 ⟫ λ y at. pick (eqb at (length s)) (got y at) (bad (fault_at kind.Extra at))) (bad (fault_at kind.Long 0)) ≡ got x end → (length s ≤ most) × (P s 0 ≡ got x end) × (end ≡ length s)
    short true r g = ended (leb-true (length s) most r) (then_got (λ y at. pick (eqb at (length s)) (got y at) (bad (fault_at kind.Extra at))) (P s 0) x end g)
    short false r g = let z : ◌≡◌ {A = ℕ} 0 1 = cc in absurd (omega arith)

module _ {A B : Type 0} (P : Reader A) (plain : A → B) (rows : Reader B) (same : (s : List ℕ) (at : ℕ) → (P s at ⟫ λ x at. got (plain x) at) ≡ rows s at) (Fit : B → Type 0) (E : B → List ℕ)
    (format : Format Fit rows E) (most : ℕ)
  where
    pub all_reads : (y : B) → Fit y → length (E y) ≤ most → (x : A) × (all_of most P (E y) ≡ got x (length (E y))) × (plain x ≡ y)
    all_reads y fit h = go (then_got {B = B} (λ x at. got (plain x) at) (P (E y) 0) y (length (E y)) (same (E y) 0 ∙ format.reads y (E y) 0 [] fit (sym (append-nil (E y))) ∙ ap (got y) (zero-add (length (E y)))))
      where
        go : (x : A) × (at : ℕ) × (P (E y) 0 ≡ got x at) × (◌≡◌ {A = Parsed B} (got (plain x) at) (got y (length (E y)))) → (x : A) × (all_of most P (E y) ≡ got x (length (E y))) × (plain x ≡ y)
        go (x, at, p, q) =
            let u : at ≡ length (E y) = cc in
            let v : plain x ≡ y = cc in
            (x, all_got P most (E y) h x at p u ∙ ap (got x) u, v)

    pub all_one : (s : List ℕ) (x : A) (end : ℕ) → Bytes s → all_of most P s ≡ got x end → (s ≡ E (plain x)) × Fit (plain x)
    all_one s x end b e =
        let w = all_form P most s x end e in
        whole_stood Fit E s (plain x) (subst (λ (n : ℕ). Stood Fit E (plain x) s 0 n) w.2 (format.form (plain x) s 0 end b (sym (same s 0) ∙ got_then (P s 0) _ w.1)))
