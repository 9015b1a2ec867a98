-- A key table: version 0, then key access records and key delegations. At most 16,384 bytes.
use Rattle.std.specs.Prelude.{List, ◌++◌, ℕ}
use Rattle.rules.specs.Ranges.{most_accesses, most_delegations}
use Rattle.rules.specs.KeyTables.{KeyAccess, KeyDelegation, KeyTable}
use Rattle.wire.specs.Number.{bytes_of}
use Rattle.records.specs.Parsed.{Parsed, got, Reader, ◌⟫◌}
use Rattle.records.specs.KeyRecords.{key_access_record, key_access_bytes, key_delegation_record, key_delegation_bytes}
use Rattle.table.specs.Sections.{version, Part, section, all_of}
use Rattle.table.specs.ReadTable.{section_bytes}

abbrev pub most_key_table : ℕ
most_key_table = 16384

pub record KeyLaid : Type 0 where
  pub accesses : Part KeyAccess
  pub delegations : Part KeyDelegation

abbrev pub key_table_of : KeyLaid → KeyTable
key_table_of l = record { accesses = l.accesses.records; delegations = l.delegations.records }

unfoldable pub key_table_fields : Reader KeyLaid
key_table_fields s at =
    version 0 s at ⟫ λ v at.
    section most_accesses (λ earlier. key_access_record) s at ⟫ λ accesses at.
    section most_delegations (λ earlier. key_delegation_record) s at ⟫ λ delegations at.
    got (record { accesses = accesses; delegations = delegations }) at

-- THE KEY TABLE that the bytes hold, or their fault.
unfoldable pub read_key_table : List ℕ → Parsed KeyLaid
read_key_table s = all_of most_key_table key_table_fields s

-- ---- its bytes
unfoldable pub key_table_bytes : KeyTable → List ℕ
key_table_bytes t = bytes_of 0 ++ (section_bytes key_access_bytes t.accesses ++ section_bytes key_delegation_bytes t.delegations)
