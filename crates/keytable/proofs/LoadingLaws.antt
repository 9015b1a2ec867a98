-- A whole key table, from its version and its two sections.
use mathlib.Core.Path.{◌≡◌, sym, ◌∙◌, ap}
use mathlib.Core.Bool.{Bool}
use mathlib.Core.List.{List, []}
use Prim.Native.Nat.{ℕ, ◌<◌, ◌≤◌}
use native.Mathlib.Omega.{arith}
use lib.ListN.{length}
use Rattle.std.specs.Prelude.{Result, Ok, Err}
use Rattle.rules.specs.Ranges.{most_accesses, most_delegations}
use Rattle.rules.specs.Tables.{Asked}
use Rattle.rules.specs.KeyTables.{KeyAccess, KeyDelegation}
use Rattle.rules.specs.declared.Key.{Key}
use Rattle.records.specs.Parsed.{got, bad, Reader, fault_at, found_as, after}
use Rattle.records.specs.Fields.{field}
use Rattle.records.specs.Many.{many}
use Rattle.records.specs.KeyRecords.{key_access_record, key_delegation_record}
use Rattle.records.specs.declared.faults.Kind.TheVariants as kind
use Rattle.records.specs.declared.faults.Fault.{Fault}
use Rattle.records.proofs.ManyLaws.{many_length}
use Rattle.records.proofs.ParsedLaws.{got_then, bad_first, found_got, found_bad, as_got, as_bad}
use Rattle.table.specs.Kept.{IfGood}
use Rattle.table.specs.Sections.{version, Part, section}
use Rattle.table.specs.ReadKeyTable.{KeyLaid, most_key_table, key_table_fields, read_key_table}
use Rattle.table.proofs.AnswersLaws.{after_got, after_bad}
use Rattle.table.proofs.LoadingLaws.{Besides, ill, well}
use Rattle.table.proofs.SectionsLaws.{all_long, all_bad, all_got, all_more}
use Rattle.table.proofs.KeyTableForm.{key_accesses_of, key_delegations_of}
use Rattle.keytable.specs.Keeping.{access_asked, delegation_asked, sift, sifted, Placed, KeysKept, kept_of, kept_in}
use Rattle.keytable.specs.declared.KeyKept.{KeyKept}
use Rattle.keytable.specs.declared.loading.KeptSection.{KeptSection}

-- ---- a section
section_apart : {A : Type 0} (f : A → Bool) (e : Fault) (l : Part A) (at : ℕ) → Err e ≡ found_as (kept_of f) (got l at) → ⊥
section_apart f e l at h = let z : ◌≡◌ {A = ℕ} 0 1 = cc in absurd (omega arith)

module _ {A : Type 0} (f : A → Bool) (most : ℕ) (P : Reader A) (s places : List ℕ) (from : ℕ) where
  -- What is answered, with what is kept if all is well.
  abbrev pub LoadsSection : Result (KeptSection × ℕ) Fault → Type 0
  LoadsSection r = Besides (found_as (kept_of f)) (λ (p : Part A). Placed P s places (sifted f p.records) (sift f p.records)) r (section most (λ e. P) s from)

  failed : (e : Fault) → section most (λ e. P) s from ≡ bad e → LoadsSection (Err e)
  failed e h =
      ill (found_as (kept_of f)) (λ (p : Part A). Placed P s places (sifted f p.records) (sift f p.records)) (Err e) (section most (λ e. P) s from) (section_apart f e) (as_bad (kept_of f) h)

  pub section_fails : (e : Fault) → field 0 most s from ≡ bad e → LoadsSection (Err e)
  unfolding section
  section_fails e h = failed e (bad_first (field 0 most s from) _ h)

  module _ (n first : ℕ) (counted : field 0 most s from ≡ got n first) where
    pub records_fail : (e : Fault) → Err e ≡ found_as (sifted f) (many (λ e. P) n [] s first) → LoadsSection (Err e)
    unfolding section
    records_fail e q = failed e (got_then (field 0 most s from) _ counted ∙ bad_first (many (λ e. P) n [] s first) _ (found_bad (sifted f) (many (λ e. P) n [] s first) q))

    pub section_found : (kept at : ℕ) → Ok (kept, at) ≡ found_as (sifted f) (many (λ e. P) n [] s first)
        → IfGood (many (λ e. P) n [] s first) (λ (l : List A). Placed P s places (sifted f l) (sift f l)) → LoadsSection (Ok (record { section = record { count = n; first = first }; kept = kept }, at))
    unfolding section
    section_found kept at q keeps = done (found_got (sifted f) (many (λ e. P) n [] s first) q)
      where
        done : (l : List A) × (many (λ e. P) n [] s first ≡ got l at) × (kept ≡ sifted f l) → LoadsSection (Ok (record { section = record { count = n; first = first }; kept = kept }, at))
        done (l, w, k) =
            let x : Part A = record { records = l; first = first } in
            let g : section most (λ e. P) s from ≡ got x at = got_then (field 0 most s from) _ counted ∙ got_then (many (λ e. P) n [] s first) _ w in
            well (found_as (kept_of f)) (λ (p : Part A). Placed P s places (sifted f p.records) (sift f p.records)) (Ok (record { section = record { count = n; first = first }; kept = kept }, at))
            (section most (λ e. P) s from) x at g (keeps l at w) (rw (sym (many_length (λ e. P) n [] l s first at w), k) (as_got (kept_of f) g))

-- ---- all of it
loaded_apart : (q : Asked Key) (e : Fault) (l : KeyLaid) (at : ℕ) → Err e ≡ kept_in q (got l at) → ⊥
loaded_apart q e l at h = let z : ◌≡◌ {A = ℕ} 0 1 = cc in absurd (omega arith)

module _ (s : List ℕ) (q : Asked Key) (access_places delegation_places : List ℕ) where
  -- What is answered, with what is kept if all is well.
  abbrev pub Loads : Result KeyKept Fault → Type 0
  Loads r = Besides (kept_in q) (λ (l : KeyLaid). KeysKept s q access_places delegation_places l) r (read_key_table s)

  table_fails : (e : Fault) → read_key_table s ≡ bad e → Loads (Err e)
  table_fails e h = ill (kept_in q) (λ (l : KeyLaid). KeysKept s q access_places delegation_places l) (Err e) (read_key_table s) (loaded_apart q e) (ap (kept_in q) (sym h))

  pub table_long : most_key_table < length s → Loads (Err (fault_at kind.Long 0))
  unfolding read_key_table
  table_long h = table_fails (fault_at kind.Long 0) (all_long key_table_fields most_key_table s h)

  module _ (h : length s ≤ most_key_table) where
    is_bad : (e : Fault) → key_table_fields s 0 ≡ bad e → Loads (Err e)
    unfolding read_key_table
    is_bad e w = table_fails e (all_bad key_table_fields most_key_table s h e w)

    pub version_bad : (e : Fault) → Err e ≡ after (version 0 s 0) → Loads (Err e)
    unfolding key_table_fields
    version_bad e w = is_bad e (bad_first (version 0 s 0) _ (after_bad (version 0 s 0) w))

    module _ (a : ℕ) (e₀ : Ok a ≡ after (version 0 s 0)) where
      zero_th : (v : ℕ) × (version 0 s 0 ≡ got v a)
      zero_th = after_got (version 0 s 0) e₀

      pub accesses_bad : (e : Fault) → Err e ≡ found_as (kept_of (access_asked q)) (section most_accesses key_accesses_of s a) → Loads (Err e)
      unfolding key_table_fields
      accesses_bad e w =
          is_bad e (got_then (version 0 s 0) _ zero_th.1 ∙ bad_first (section most_accesses key_accesses_of s a) _ (found_bad (kept_of (access_asked q)) (section most_accesses key_accesses_of s a) w))

      module _ (x : KeptSection) (b : ℕ) (e₁ : Ok (x, b) ≡ found_as (kept_of (access_asked q)) (section most_accesses key_accesses_of s a)) where
        first : (p : Part KeyAccess) × (section most_accesses key_accesses_of s a ≡ got p b) × (x ≡ kept_of (access_asked q) p)
        first = found_got (kept_of (access_asked q)) (section most_accesses key_accesses_of s a) e₁

        pub delegations_bad : (e : Fault) → Err e ≡ found_as (kept_of (delegation_asked q)) (section most_delegations key_delegations_of s b) → Loads (Err e)
        unfolding key_table_fields
        delegations_bad e w =
            is_bad e (got_then (version 0 s 0) _ zero_th.1 ∙ got_then (section most_accesses key_accesses_of s a) _ first.1
            ∙ bad_first (section most_delegations key_delegations_of s b) _ (found_bad (kept_of (delegation_asked q)) (section most_delegations key_delegations_of s b) w))

        module _ (y : KeptSection) (end : ℕ) (e₂ : Ok (y, end) ≡ found_as (kept_of (delegation_asked q)) (section most_delegations key_delegations_of s b)) where
          second : (p : Part KeyDelegation) × (section most_delegations key_delegations_of s b ≡ got p end) × (y ≡ kept_of (delegation_asked q) p)
          second = found_got (kept_of (delegation_asked q)) (section most_delegations key_delegations_of s b) e₂

          laid : KeyLaid
          laid = record { accesses = first.0; delegations = second.0 }

          all_read : key_table_fields s 0 ≡ got laid end
          unfolding key_table_fields laid
          all_read = got_then (version 0 s 0) _ zero_th.1 ∙ got_then (section most_accesses key_accesses_of s a) _ first.1 ∙ got_then (section most_delegations key_delegations_of s b) _ second.1

          pub table_more : (end ≡ length s → ⊥) → Loads (Err (fault_at kind.Extra end))
          unfolding read_key_table
          table_more n = table_fails (fault_at kind.Extra end) (all_more key_table_fields most_key_table s h laid end all_read n)

          pub table_found : end ≡ length s
              → IfGood (section most_accesses key_accesses_of s a) (λ (p : Part KeyAccess). Placed key_access_record s access_places (sifted (access_asked q) p.records) (sift (access_asked q) p.records))
              → IfGood (section most_delegations key_delegations_of s b)
              (λ (p : Part KeyDelegation). Placed key_delegation_record s delegation_places (sifted (delegation_asked q) p.records) (sift (delegation_asked q) p.records))
              → Loads (Ok (record { accesses = x; delegations = y }))
          unfolding read_key_table laid
          table_found n given handed =
              let g : read_key_table s ≡ got laid end = all_got key_table_fields most_key_table s h laid end all_read n in
              well (kept_in q) (λ (l : KeyLaid). KeysKept s q access_places delegation_places l) (Ok (record { accesses = x; delegations = y })) (read_key_table s) laid end g
              (record { accesses = given first.0 b first.1; delegations = handed second.0 end second.1 })
              (rw (first.2, second.2) (ap (kept_in q) (sym g)))
