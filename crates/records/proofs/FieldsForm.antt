-- Fields have one form: reading gives back what was encoded, and what reads as good is its encoding.
use mathlib.Core.Path.{◌≡◌, refl, sym, ◌∙◌, ap, ap₂}
use mathlib.Core.Bool.{true}
use mathlib.Core.Logic.{◌↔◌}
use mathlib.Core.List.{List, ◌++◌}
use Prim.Native.Nat.{ℕ, ◌+◌, ◌^◌, ◌<◌, ◌≤◌}
use native.Mathlib.Nat.{add_assoc}
use native.Mathlib.Omega.{arith}
use lib.Dec.{leb, ltb}
use lib.ListN.{drop, length-drop, take-append-drop}
use lib.Seq.{drop-drop}
use borrow.Author.Tests.{leb-true, le-leb, ltb-true, lt-ltb}
use Rattle.rules.specs.Depths.{top}
use Rattle.rules.specs.Ranges.{Between, most_key, most_object, most_right, GoodKey}
use Rattle.rules.specs.declared.Key.{Key}
use Rattle.rules.specs.declared.Space.{Space}
use Rattle.wire.specs.Number.{number_at, bytes_of, Bytes}
use Rattle.wire.specs.Number.{Number}
use Rattle.wire.specs.Number as number
use Rattle.wire.proofs.NumberLaws.{number_read, number_form, number_small, number_there, bytes_drop}
use Rattle.records.specs.Parsed.{got, bad, fault_at, moved_by}
use Rattle.records.specs.Fields.{found_at, any_number, between, field, space_field, key_field, depth_field, use_fields}
use Rattle.records.specs.declared.faults.Kind.TheVariants as kind
use Rattle.records.specs.declared.faults.Fault.{Fault}
use Rattle.records.proofs.FormatLaws.{Walks, Stood, Format, refit, checked_walks, checked_format, mapped_walks, mapped_format, both_walks, both_format}
use Rattle.records.proofs.FieldsLaws.{both_true}

-- ---- any number
found_value : (at v next : ℕ) (m : Number) → found_at at m ≡ got v next → (n : ℕ) × (m ≡ number.Value v n) × (next ≡ at + n)
unfolding found_at
found_value at v next (number.Value w n) e = let x : w ≡ v = cc in let y : at + n ≡ next = cc in (n, ap (λ (u : ℕ). number.Value u n) x, sym y)
found_value at v next number.Cut e = let z : ◌≡◌ {A = ℕ} 0 1 = cc in absurd (omega arith)
found_value at v next number.Wrong e = let z : ◌≡◌ {A = ℕ} 0 1 = cc in absurd (omega arith)

found_fault : (at : ℕ) (e : Fault) (m : Number) → found_at at m ≡ bad e → e.place.offset ≡ at
unfolding found_at
found_fault at e (number.Value w n) h = let z : ◌≡◌ {A = ℕ} 0 1 = cc in absurd (omega arith)
found_fault at e number.Cut h = let x : fault_at kind.Cut at ≡ e = cc in sym (ap (λ (f : Fault). f.place.offset) x)
found_fault at e number.Wrong h = let x : fault_at kind.Number at ≡ e = cc in sym (ap (λ (f : Fault). f.place.offset) x)

found_moves : (by at : ℕ) (m : Number) → found_at (by + at) m ≡ moved_by by (found_at at m)
unfolding found_at
found_moves by at (number.Value w n) = ap (λ (x : ℕ). got w x) (add_assoc by at n)
found_moves by at number.Cut = refl
found_moves by at number.Wrong = refl

pub number_walks : Walks any_number
unfolding any_number
number_walks = record {
  ends = λ v s at next h e.
      let r = found_value at v next (number_at (drop at s)) e in
      (omega (arith, r.2), omega (arith, r.2, number_there v r.0 (drop at s) r.1, length-drop at s));
  within = λ e s at h g. omega (arith, found_fault at e (number_at (drop at s)) g);
  moves = λ s by at. found_moves by at (number_at (drop (by + at) s)) ∙ ap (λ (l : List ℕ). moved_by by (found_at at (number_at l))) (sym (drop-drop at by s));
}

pub number_format : Format (λ v. v < 2 ^ 32) any_number bytes_of
unfolding any_number found_at
number_format = record {
  reads = λ v s at rest fit h. ap (λ (l : List ℕ). found_at at (number_at l)) h ∙ ap (found_at at) (number_read v rest fit);
  form = λ v s at next b e. stood v s at next b (found_value at v next (number_at (drop at s)) e);
}
  where
    stood : (v : ℕ) (s : List ℕ) (at next : ℕ) → Bytes s → (n : ℕ) × (number_at (drop at s) ≡ number.Value v n) × (next ≡ at + n) → Stood (λ v. v < 2 ^ 32) bytes_of v s at next
    stood v s at next b r =
        let f = number_form v r.0 (drop at s) (bytes_drop at s b) r.1 in
        record {
          fit = number_small v r.0 (drop at s) r.1;
          after = r.2 ∙ ap (λ (n : ℕ). at + n) f.0;
          bytes = sym (take-append-drop r.0 (drop at s)) ∙ ap₂ (λ (a b : List ℕ). a ++ b) f.1 (drop-drop r.0 at s ∙ ap (λ (n : ℕ). drop n s) (sym r.2));
        }

-- ---- a number in its range
pub field_walks : (low high : ℕ) → Walks (field low high)
unfolding field
field_walks low high = checked_walks kind.Range (between low high) any_number number_walks

pub field_format : (low high : ℕ) → high < 2 ^ 32 → Format (λ v. Between low high v) (field low high) bytes_of
unfolding field
field_format low high h =
    refit (λ v. (v < 2 ^ 32) × (between low high v ≡ true)) (λ v. Between low high v) (field low high) bytes_of same
    (checked_format kind.Range (between low high) any_number (λ v. v < 2 ^ 32) bytes_of number_format)
  where
    same : (v : ℕ) → ((v < 2 ^ 32) × (between low high v ≡ true)) ↔ Between low high v
    same v = (
      λ w. let p = (both_true (leb low v) (leb v high)).0 w.1 in record { least = leb-true low v p.0; most = leb-true v high p.1 },
      λ w. (omega (arith, h, w.most), (both_true (leb low v) (leb v high)).1 (le-leb low v w.least, le-leb v high w.most)),
    )

pub space_walks : (spaces : ℕ) → Walks (space_field spaces)
unfolding space_field
space_walks spaces = mapped_walks _ _ (checked_walks kind.Range (λ v. ltb v spaces) any_number number_walks)

pub space_format : (spaces : ℕ) → spaces ≤ 2 ^ 32 → Format (λ (S : Space). S.0 < spaces) (space_field spaces) (λ S. bytes_of S.0)
unfolding space_field
space_format spaces h =
    refit (λ (S : Space). ((S.0 < 2 ^ 32) × (ltb S.0 spaces ≡ true)) × Unit {0}) (λ S. S.0 < spaces) (space_field spaces) (λ S. bytes_of S.0) same
    (mapped_format (λ v. record { 0 = v }) _ (λ v. (v < 2 ^ 32) × (ltb v spaces ≡ true)) bytes_of (λ S. S.0) (λ S. Unit {0}) (λ v. tt) (λ v. refl) (λ S u. refl)
    (checked_format kind.Range (λ v. ltb v spaces) any_number (λ v. v < 2 ^ 32) bytes_of number_format))
  where
    same : (S : Space) → (((S.0 < 2 ^ 32) × (ltb S.0 spaces ≡ true)) × Unit {0}) ↔ (S.0 < spaces)
    same S = (λ w. ltb-true S.0 spaces w.0.1, λ l. ((omega (arith, l, h), lt-ltb S.0 spaces l), tt))

pub key_walks : Walks key_field
unfolding key_field
key_walks = mapped_walks _ (field 1 most_key) (field_walks 1 most_key)

pub key_format : Format GoodKey key_field (λ k. bytes_of k.0)
unfolding key_field
key_format =
    refit (λ (k : Key). Between 1 most_key k.0 × Unit {0}) GoodKey key_field (λ k. bytes_of k.0) (λ k. (λ w. w.0, λ w. (w, tt)))
    (mapped_format (λ v. record { 0 = v }) (field 1 most_key) (Between 1 most_key) bytes_of (λ (k : Key). k.0) (λ k. Unit {0}) (λ v. tt) (λ v. refl) (λ k u. refl) (field_format 1 most_key (omega arith)))

pub depth_walks : Walks depth_field
unfolding depth_field
depth_walks = checked_walks kind.Range (λ v. leb v top) any_number number_walks

pub depth_format : Format (λ d. d ≤ top) depth_field bytes_of
unfolding depth_field
depth_format =
    refit (λ v. (v < 2 ^ 32) × (leb v top ≡ true)) (λ d. d ≤ top) depth_field bytes_of (λ v. (λ w. leb-true v top w.1, λ l. (omega arith, le-leb v top l)))
    (checked_format kind.Range (λ v. leb v top) any_number (λ v. v < 2 ^ 32) bytes_of number_format)

pub use_walks : Walks use_fields
unfolding use_fields
use_walks = both_walks (field 0 most_object) (field 1 most_right) (field_walks 0 most_object) (field_walks 1 most_right)

-- An object and a right that a record may hold.
abbrev pub GoodUse : ℕ × ℕ → Type 0
GoodUse u = Between 0 most_object u.0 × Between 1 most_right u.1

pub use_format : Format GoodUse use_fields (λ u. bytes_of u.0 ++ bytes_of u.1)
unfolding use_fields
use_format =
    both_format (field 0 most_object) (field 1 most_right) (Between 0 most_object) bytes_of (Between 1 most_right) bytes_of (field_format 0 most_object (omega arith)) (field_format 1 most_right (omega arith))
