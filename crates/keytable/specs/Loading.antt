-- A key table, as code answers and as it stands in bytes.
use Rattle.std.specs.Prelude.{List, [], ℕ, Result, Ok, Err}
use Rattle.rules.specs.KeyTables.{KeyTable}
use Rattle.records.specs.Parsed.{Parsed, got, bad}
use Rattle.records.specs.declared.faults.Fault.{Fault}
use Rattle.table.specs.Sections.{section_of}
use Rattle.table.specs.ReadKeyTable.{KeyLaid, key_table_of, read_key_table}
use Rattle.keytable.specs.declared.KeySections.{KeySections}

abbrev pub key_sections_of : KeyLaid → KeySections
key_sections_of l = record { accesses = section_of l.accesses; delegations = section_of l.delegations }

abbrev pub key_loaded_of : Parsed KeyLaid → Result KeySections Fault
key_loaded_of (got l at) = Ok (key_sections_of l)
key_loaded_of (bad e) = Err e

-- The key table that good bytes hold. (Of other bytes nothing is said: they count as an empty one.)
abbrev pub key_table_in : Parsed KeyLaid → KeyTable
key_table_in (got l at) = key_table_of l
key_table_in (bad e) = record { accesses = []; delegations = [] }

unfoldable pub key_table_at : List ℕ → KeyTable
key_table_at s = key_table_in (read_key_table s)
