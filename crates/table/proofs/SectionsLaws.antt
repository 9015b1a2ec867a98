-- A section, from its count and its records; and all of the bytes.
use mathlib.Core.Path.{◌≡◌, refl, sym, ◌∙◌, ap}
use mathlib.Core.List.{List, []}
use Prim.Native.Nat.{ℕ, ◌<◌, ◌≤◌}
use native.Mathlib.Omega.{arith}
use lib.Dec.{eqb}
use lib.ListN.{length}
use borrow.Author.Tests.{eq-eqb, ne_eqb, le-leb, lt-leb}
use Rattle.std.specs.Prelude.{Ok, Err}
use Rattle.records.specs.Parsed.{Parsed, got, bad, Reader, fault_at, ◌⟫◌, found_as, after}
use Rattle.records.specs.Fields.{any_number, field}
use Rattle.records.specs.Many.{many}
use Rattle.records.specs.declared.faults.Kind.TheVariants as kind
use Rattle.records.specs.declared.faults.Fault.{Fault}
use Rattle.records.proofs.ParsedLaws.{then_got, got_then, bad_first, found_got, as_got, as_bad}
use Rattle.records.proofs.FormatLaws.{Walks, checked_walks}
use Rattle.records.proofs.FieldsLaws.{field_within}
use Rattle.records.proofs.FieldsForm.{number_walks, field_walks}
use Rattle.records.proofs.ManyLaws.{many_length}
use Rattle.records.proofs.ManyForm.{many_walks}
use Rattle.table.proofs.AnswersLaws.{after_got, after_bad}
use Rattle.table.proofs.LoadingLaws.{Besides, ill, well}
use Rattle.table.specs.Kept.{IfGood}
use Rattle.table.specs.Sections.{version, Part, section, all_of, section_of}
use Rattle.table.specs.declared.loading.Section.{Section}

-- ---- the version
module _ (s : List ℕ) (wanted : ℕ) where
  pub version_fails : (f : Fault) → any_number s 0 ≡ bad f → version wanted s 0 ≡ bad f
  unfolding version
  version_fails f e = bad_first (any_number s 0) _ e

  module _ (v at : ℕ) (e : any_number s 0 ≡ got v at) where
    pub version_is : v ≡ wanted → version wanted s 0 ≡ got v at
    unfolding version
    version_is h = got_then (any_number s 0) _ e ∙ rw (eq-eqb v wanted h)

    pub version_not : (v ≡ wanted → ⊥) → version wanted s 0 ≡ bad (fault_at kind.Version 0)
    unfolding version
    version_not h = got_then (any_number s 0) _ e ∙ rw (ne_eqb v wanted h)

-- Where the version ends.
pub version_within : (s : List ℕ) (wanted at : ℕ) → Ok at ≡ after (version wanted s 0) → at ≤ length s
unfolding version
version_within s wanted at e = let v = after_got (version wanted s 0) e in ((checked_walks kind.Version (λ n. eqb n wanted) any_number number_walks).ends v.0 s 0 at (omega arith) v.1).1

-- ---- the count of a section
module _ (s : List ℕ) (from most n first : ℕ) (e : field 0 most s from ≡ got n first) where
  pub count_few : n ≤ most
  count_few = (field_within s from 0 most n first e).1

  pub count_within : from ≤ length s → first ≤ length s
  count_within h = ((field_walks 0 most).ends n s from first h e).1

-- ---- a section
section_apart : {A : Type 0} (f : Fault) (l : Part A) (at : ℕ) → Err f ≡ found_as section_of (got l at) → ⊥
section_apart f l at e = let z : ◌≡◌ {A = ℕ} 0 1 = cc in absurd (omega arith)

module _ {A : Type 0} (most : ℕ) (P : List A → Reader A) (s : List ℕ) (from : ℕ) (K : Part A → Type 0) where
  failed : (f : Fault) → section most P s from ≡ bad f → Besides (found_as section_of) K (Err f) (section most P s from)
  failed f e = ill (found_as section_of) K (Err f) (section most P s from) (section_apart f) (as_bad section_of e)

  pub section_fails : (f : Fault) → field 0 most s from ≡ bad f → Besides (found_as section_of) K (Err f) (section most P s from)
  unfolding section
  section_fails f e = failed f (bad_first (field 0 most s from) _ e)

  module _ (n first : ℕ) (e : field 0 most s from ≡ got n first) where
    pub records_fail : (f : Fault) → Err f ≡ after (many P n [] s first) → Besides (found_as section_of) K (Err f) (section most P s from)
    unfolding section
    records_fail f q = failed f (got_then (field 0 most s from) _ e ∙ bad_first (many P n [] s first) _ (after_bad (many P n [] s first) q))

    pub section_found : (at : ℕ) → Ok at ≡ after (many P n [] s first) → IfGood (many P n [] s first) (λ (l : List A). K (record { records = l; first = first }))
        → Besides (found_as section_of) K (Ok (record { count = n; first = first }, at)) (section most P s from)
    unfolding section
    section_found at q keeps = done (after_got (many P n [] s first) q)
      where
        done : (l : List A) × (many P n [] s first ≡ got l at) → Besides (found_as section_of) K (Ok (record { count = n; first = first }, at)) (section most P s from)
        done (l, w) =
            let x : Part A = record { records = l; first = first } in
            let g : section most P s from ≡ got x at = got_then (field 0 most s from) _ e ∙ got_then (many P n [] s first) _ w in
            well (found_as section_of) K (Ok (record { count = n; first = first }, at)) (section most P s from) x at g (keeps l at w)
            (rw (sym (many_length P n [] l s first at w)) (as_got section_of g))

-- Where the bytes of a section end; and its count is in its range.
pub section_within : {A : Type 0} (most : ℕ) (P : List A → Reader A) → ((earlier : List A) → Walks (P earlier)) → (s : List ℕ) (from : ℕ) (x : Section) (at : ℕ) → from ≤ length s
    → Ok (x, at) ≡ found_as section_of (section most P s from) → (x.count ≤ most) × (at ≤ length s)
unfolding section
section_within {A} most P walks s from x at h found = let p = found_got section_of (section most P s from) found in go (p.0, p.1, sym p.2)
  where
    go : (l : Part A) × (section most P s from ≡ got l at) × (section_of l ≡ x) → (x.count ≤ most) × (at ≤ length s)
    go (l, p, q) =
        let a = then_got {B = Part A} (λ n first. many P n [] s first ⟫ λ l at. got (record { records = l; first = first }) at) (field 0 most s from) l at p in
        let b = then_got {B = Part A} (λ l at. got (record { records = l; first = a.1 }) at) (many P a.0 [] s a.1) l at a.3 in
        let f = (field_walks 0 most).ends a.0 s from a.1 h a.2 in
        let m = (many_walks P walks a.0 []).ends b.0 s a.1 b.1 f.1 b.2 in
        last a.0 a.1 b.0 b.1 (count_few s from most a.0 a.1 a.2) (many_length P a.0 [] b.0 s a.1 b.1 b.2) m.1 b.3
      where
        last : (n first : ℕ) (k : List A) (end : ℕ) → n ≤ most → length k ≡ n → end ≤ length s → ◌≡◌ {A = Parsed (Part A)} (got (record { records = k; first = first }) end) (got l at) → (x.count ≤ most) × (at ≤ length s)
        last n first k end u v w z =
            let i : end ≡ at = cc in
            let j : record { records = k; first = first } ≡ l = cc in
            (omega (arith, u, v, ap (λ (y : Part A). length y.records) j, ap (λ (y : Section). y.count) q), omega (arith, w, i))

-- ---- all of the bytes
module _ {A : Type 0} (P : Reader A) (most : ℕ) (s : List ℕ) where
  pub all_long : most < length s → all_of most P s ≡ bad (fault_at kind.Long 0)
  unfolding all_of
  all_long h = rw (lt-leb (length s) most h) refl

  module _ (h : length s ≤ most) where
    pub all_bad : (e : Fault) → P s 0 ≡ bad e → all_of most P s ≡ bad e
    unfolding all_of
    all_bad e q = rw (le-leb (length s) most h) (bad_first (P s 0) _ q)

    pub all_got : (x : A) (at : ℕ) → P s 0 ≡ got x at → at ≡ length s → all_of most P s ≡ got x at
    unfolding all_of
    all_got x at q e = rw (le-leb (length s) most h) (got_then (P s 0) _ q ∙ rw (eq-eqb at (length s) e) refl)

    pub all_more : (x : A) (at : ℕ) → P s 0 ≡ got x at → (at ≡ length s → ⊥) → all_of most P s ≡ bad (fault_at kind.Extra at)
    unfolding all_of
    all_more x at q e = rw (le-leb (length s) most h) (got_then (P s 0) _ q ∙ rw (ne_eqb at (length s) e) refl)
