-- A section without its places: a count, and so many records. It has one form where each record has.
use mathlib.Core.Path.{◌≡◌, refl, sym}
use mathlib.Core.List.{List, []}
use Prim.Native.Nat.{ℕ, ◌<◌, ◌≤◌, ◌^◌}
use native.Mathlib.Omega.{arith}
use lib.ListN.{length}
use Rattle.rules.specs.Ranges.{Between}
use Rattle.wire.specs.Number.{bytes_of}
use Rattle.records.specs.Parsed.{Parsed, got, bad, Reader, ◌⟫◌, ◌⊗◌, mapped}
use Rattle.records.specs.Fields.{field}
use Rattle.records.specs.Many.{many, many_bytes}
use Rattle.records.proofs.FormatLaws.{Format, refit, led, led_format}
use Rattle.records.proofs.FieldsForm.{field_format}
use Rattle.records.proofs.ManyForm.{AllFit, many_format}
use Rattle.table.specs.Sections.{Part, section}
use Rattle.table.specs.ReadTable.{section_bytes}

module _ {A : Type 0} (most : ℕ) (P : List A → Reader A) where
  abbrev pub row_of : Reader (List A)
  row_of = led (field 0 most) (λ n. many P n [])

  abbrev placed : ℕ → List A → ℕ → Parsed (Part A)
  placed first l at = got (record { records = l; first = first }) at

  abbrev pub row : Part A → ℕ → Parsed (List A)
  row p at = got p.records at

  -- A section gives its row, and where the first record begins.
  pub section_row : (s : List ℕ) (at : ℕ) → (section most P s at ⟫ row) ≡ row_of s at
  unfolding section ◌⟫◌
  section_row s at = count (field 0 most s at)
    where
      records : (first : ℕ) (p : Parsed (List A)) → ((p ⟫ placed first) ⟫ row) ≡ p
      records first (got l at) = refl
      records first (bad e) = refl

      count : (p : Parsed ℕ) → ((p ⟫ λ n first. many P n [] s first ⟫ placed first) ⟫ row) ≡ (p ⟫ λ n at. many P n [] s at)
      count (got n first) = records first (many P n [] s first)
      count (bad e) = refl

  module _ (Fit : List A → A → Type 0) (E : A → List ℕ) where
    abbrev pub RowFits : List A → Type 0
    RowFits l = (length l ≤ most) × AllFit Fit [] l

    pub row_format : most < 2 ^ 32 → ((earlier : List A) → Format (Fit earlier) (P earlier) E) → Format RowFits row_of (section_bytes E)
    row_format h p =
        refit (λ l. Between 0 most (length l) × AllFit Fit [] l) RowFits row_of (section_bytes E) (λ l. (λ w. (w.0.most, w.1), λ w. (record { least = omega arith; most = w.0 }, w.1)))
        (led_format (field 0 most) (λ n. many P n []) (Between 0 most) bytes_of (AllFit Fit []) (many_bytes E) length (field_format 0 most h)
        (λ n fit. refit (λ l. (length l ≡ n) × AllFit Fit [] l) _ (many P n []) (many_bytes E) (λ l. (λ w. (w.1, w.0), λ w. (w.1, w.0))) (many_format P Fit E p n [])))

-- What goes on from a section, and from its row.
pub row_then : {A B C : Type 0} (p : Parsed (Part A)) (q : Parsed (List A)) (f : Part A → ℕ → Parsed B) (g : List A → ℕ → Parsed C) (h : B → ℕ → Parsed C)
    → (p ⟫ λ x at. got x.records at) ≡ q → ((x : Part A) (at : ℕ) → (f x at ⟫ h) ≡ g x.records at) → ((p ⟫ f) ⟫ h) ≡ (q ⟫ g)
unfolding ◌⟫◌
row_then (got x at) q f g h e same = rw (sym e) (same x at)
row_then (bad d) q f g h e same = rw (sym e) refl

-- Two one after the other, made into something else.
pub two_mapped : {A B C : Type 0} (make : A × B → C) (P : Reader A) (Q : Reader B) (s : List ℕ) (at : ℕ) → mapped make (P ⊗ Q) s at ≡ (P s at ⟫ λ x at. Q s at ⟫ λ y at. got (make (x, y)) at)
unfolding mapped ◌⊗◌ ◌⟫◌
two_mapped {A} {B} {C} make P Q s at = first (P s at)
  where
    second : (x : A) (q : Parsed B) → ((q ⟫ λ y at. got (x, y) at) ⟫ λ w at. got (make w) at) ≡ (q ⟫ λ y at. got (make (x, y)) at)
    second x (got y at) = refl
    second x (bad e) = refl

    first : (p : Parsed A) → ((p ⟫ λ x at. Q s at ⟫ λ y at. got (x, y) at) ⟫ λ w at. got (make w) at) ≡ (p ⟫ λ x at. Q s at ⟫ λ y at. got (make (x, y)) at)
    first (got x at) = second x (Q s at)
    first (bad e) = refl

-- Three one after the other, made into something else.
pub three_mapped : {A B C D : Type 0} (make : A × (B × C) → D) (P : Reader A) (Q : Reader B) (R : Reader C) (s : List ℕ) (at : ℕ)
    → mapped make (P ⊗ (Q ⊗ R)) s at ≡ (P s at ⟫ λ x at. Q s at ⟫ λ y at. R s at ⟫ λ z at. got (make (x, (y, z))) at)
unfolding mapped ◌⊗◌ ◌⟫◌
three_mapped {A} {B} {C} {D} make P Q R s at = first (P s at)
  where
    third : (x : A) (y : B) (r : Parsed C) → (((r ⟫ λ z at. got (y, z) at) ⟫ λ w at. got (x, w) at) ⟫ λ w at. got (make w) at) ≡ (r ⟫ λ z at. got (make (x, (y, z))) at)
    third x y (got z at) = refl
    third x y (bad e) = refl

    second : (x : A) (q : Parsed B) → (((q ⟫ λ y at. R s at ⟫ λ z at. got (y, z) at) ⟫ λ w at. got (x, w) at) ⟫ λ w at. got (make w) at) ≡ (q ⟫ λ y at. R s at ⟫ λ z at. got (make (x, (y, z))) at)
    second x (got y at) = third x y (R s at)
    second x (bad e) = refl

    first : (p : Parsed A) → ((p ⟫ λ x at. (Q s at ⟫ λ y at. R s at ⟫ λ z at. got (y, z) at) ⟫ λ w at. got (x, w) at) ⟫ λ w at. got (make w) at)
        ≡ (p ⟫ λ x at. Q s at ⟫ λ y at. R s at ⟫ λ z at. got (make (x, (y, z))) at)
    first (got x at) = second x (Q s at)
    first (bad e) = refl
