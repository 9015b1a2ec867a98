-- A key table has one form.
use mathlib.Core.Path.{◌≡◌, refl, sym, ◌∙◌}
use mathlib.Core.List.{List, ◌++◌}
use mathlib.Core.Logic.{◌↔◌}
use Prim.Native.Nat.{ℕ}
use native.Mathlib.Omega.{arith}
use Rattle.rules.specs.Ranges.{most_accesses, most_delegations, GoodKeyAccess, GoodKeyDelegation, GoodKeyTable}
use Rattle.rules.specs.KeyTables.{KeyAccess, KeyDelegation, KeyTable}
use Rattle.wire.specs.Number.{bytes_of}
use Rattle.records.specs.Parsed.{Parsed, got, bad, Reader, ◌⟫◌, ◌⊗◌, mapped}
use Rattle.records.specs.KeyRecords.{key_access_record, key_access_bytes, key_delegation_record, key_delegation_bytes}
use Rattle.records.proofs.FormatLaws.{Format, refit, led, led_format, mapped_format, both_format}
use Rattle.records.proofs.KeyRecordsForm.{key_access_format, key_delegation_format}
use Rattle.table.specs.Sections.{version, Part, section}
use Rattle.table.specs.ReadTable.{section_bytes}
use Rattle.table.specs.ReadKeyTable.{KeyLaid, key_table_of, key_table_fields, key_table_bytes}
use Rattle.table.proofs.RowsForm.{row_of, section_row, row_then, two_mapped, RowFits, row_format}
use Rattle.table.proofs.TableForm.{version_format}
use Rattle.table.proofs.GoodForm.{same_row}

abbrev pub key_accesses_of : List KeyAccess → Reader KeyAccess
key_accesses_of earlier = key_access_record

abbrev pub key_delegations_of : List KeyDelegation → Reader KeyDelegation
key_delegations_of earlier = key_delegation_record

abbrev of_rows : List KeyAccess × List KeyDelegation → KeyTable
of_rows w = record { accesses = w.0; delegations = w.1 }

abbrev both_rows : Reader KeyTable
both_rows = mapped of_rows (row_of most_accesses key_accesses_of ⊗ row_of most_delegations key_delegations_of)

pub key_table_rows : Reader KeyTable
key_table_rows = led (version 0) (λ v. both_rows)

-- The places are all that is left out.
module _ (s : List ℕ) where
  abbrev plain : KeyLaid → ℕ → Parsed KeyTable
  plain l at = got (key_table_of l) at

  abbrev on_delegations : Part KeyAccess → Part KeyDelegation → ℕ → Parsed KeyLaid
  on_delegations a d at = got (record { accesses = a; delegations = d }) at

  abbrev on_accesses : Part KeyAccess → ℕ → Parsed KeyLaid
  on_accesses a at = section most_delegations key_delegations_of s at ⟫ on_delegations a

  pub key_table_rows_lem : (at : ℕ) → (key_table_fields s at ⟫ plain) ≡ key_table_rows s at
  unfolding key_table_fields key_table_rows ◌⟫◌
  key_table_rows_lem at = go (version 0 s at)
    where
      go : (p : Parsed ℕ) → ((p ⟫ λ v at. section most_accesses key_accesses_of s at ⟫ on_accesses) ⟫ plain) ≡ (p ⟫ λ v at. both_rows s at)
      go (got v at) =
          row_then (section most_accesses key_accesses_of s at) (row_of most_accesses key_accesses_of s at) on_accesses _ plain (section_row most_accesses key_accesses_of s at)
          (λ a at. row_then (section most_delegations key_delegations_of s at) (row_of most_delegations key_delegations_of s at) (on_delegations a) _ plain (section_row most_delegations key_delegations_of s at) (λ d at. refl))
          ∙ sym (two_mapped of_rows (row_of most_accesses key_accesses_of) (row_of most_delegations key_delegations_of) s at)
      go (bad e) = refl

-- ---- its form
abbrev KeyTableFits : KeyTable → Type 0
KeyTableFits t =
    RowFits most_accesses key_accesses_of (λ earlier. GoodKeyAccess) key_access_bytes t.accesses × RowFits most_delegations key_delegations_of (λ earlier. GoodKeyDelegation) key_delegation_bytes t.delegations

fits_good : (t : KeyTable) → KeyTableFits t ↔ GoodKeyTable t
fits_good t = (
  λ w. record {
    accesses = (same_row GoodKeyAccess t.accesses).0 w.0.1;
    delegations = (same_row GoodKeyDelegation t.delegations).0 w.1.1;
    few_accesses = w.0.0;
    few_delegations = w.1.0;
  },
  λ g. ((g.few_accesses, (same_row GoodKeyAccess t.accesses).1 g.accesses), (g.few_delegations, (same_row GoodKeyDelegation t.delegations).1 g.delegations)),
)

pub key_rows_format : Format GoodKeyTable key_table_rows key_table_bytes
unfolding key_table_rows key_table_bytes
key_rows_format =
    refit (λ t. (0 ≡ 0) × KeyTableFits t) GoodKeyTable key_table_rows key_table_bytes (λ t. (λ w. (fits_good t).0 w.1, λ g. (refl, (fits_good t).1 g)))
    (led_format (version 0) (λ v. both_rows) (λ n. n ≡ 0) bytes_of KeyTableFits (λ t. section_bytes key_access_bytes t.accesses ++ section_bytes key_delegation_bytes t.delegations) (λ t. 0)
    (version_format 0 (omega arith))
    (λ v e. refit (λ t. KeyTableFits t × Unit {0}) (λ t. KeyTableFits t × (0 ≡ v)) both_rows _ (λ t. (λ w. (w.0, sym e), λ w. (w.0, tt)))
    (mapped_format of_rows _ _ _ (λ t. (t.accesses, t.delegations)) (λ t. Unit {0}) (λ w. tt) (λ w. refl) (λ t u. refl)
    (both_format (row_of most_accesses key_accesses_of) (row_of most_delegations key_delegations_of) _ _ _ _
    (row_format most_accesses key_accesses_of (λ earlier. GoodKeyAccess) key_access_bytes (omega arith) (λ earlier. key_access_format))
    (row_format most_delegations key_delegations_of (λ earlier. GoodKeyDelegation) key_delegation_bytes (omega arith) (λ earlier. key_delegation_format))))))
