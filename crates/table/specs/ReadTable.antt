-- A table: version 1, then the spaces, bindings, access records and delegations. At most 32,768 bytes.
use Rattle.std.specs.Prelude.{List, [], ◌++◌, map, ℕ, length, Result, Ok, Err}
use Rattle.rules.specs.Choice.{pick}
use Rattle.rules.specs.Ranges.{most_spaces, most_bindings, most_accesses, most_delegations}
use Rattle.rules.specs.Tables.{Binding, AccessRecord, Delegation, Table}
use Rattle.rules.specs.declared.Key.{Key}
use Rattle.wire.specs.Number.{bytes_of}
use Rattle.records.specs.Parsed.{Parsed, got, bad, Reader, fault_at, ◌⟫◌}
use Rattle.records.specs.Fields.{key_field}
use Rattle.records.specs.Many.{many_bytes}
use Rattle.records.specs.Bindings.{binding_record, is_bound, binding_bytes}
use Rattle.records.specs.Rows.{is_among}
use Rattle.records.specs.Accesses.{access_record, access_bytes}
use Rattle.records.specs.Delegations.{delegation_record, delegation_bytes}
use Rattle.records.specs.declared.faults.Kind.TheVariants as kind
use Rattle.records.specs.declared.faults.Fault.{Fault}
use Rattle.table.specs.Sections.{version, Part, section, all_of, section_of}
use Rattle.table.specs.declared.Sections.{Sections}

abbrev pub most_table : ℕ
most_table = 32768

abbrev pub numbers : List Key → List ℕ
numbers = map (λ (k : Key). k.0)

-- A space is its key, which no earlier space has.
abbrev pub space_key : List Key → Reader Key
space_key earlier s at = key_field s at ⟫ λ k next. pick (is_among (numbers earlier) k.0) (bad (fault_at kind.Twice at)) (got k next)

-- The records of a table, with their places.
pub record Laid : Type 0 where
  pub spaces : Part Key
  pub bindings : Part Binding
  pub accesses : Part AccessRecord
  pub delegations : Part Delegation

abbrev pub table_of : Laid → Table
table_of l = record {
  names = record { spaces = l.spaces.records; bindings = l.bindings.records };
  accesses = l.accesses.records;
  delegations = l.delegations.records;
}

unfoldable pub table_fields : Reader Laid
table_fields s at =
    version 1 s at ⟫ λ v at.
    section most_spaces space_key s at ⟫ λ spaces at.
    section most_bindings (λ earlier. binding_record (length spaces.records) (is_bound earlier)) s at ⟫ λ bindings at.
    section most_accesses (λ earlier. access_record (length spaces.records)) s at ⟫ λ accesses at.
    section most_delegations (λ earlier. delegation_record (length spaces.records)) s at ⟫ λ delegations at.
    got (record { spaces = spaces; bindings = bindings; accesses = accesses; delegations = delegations }) at

-- THE TABLE that the bytes hold, or their fault.
unfoldable pub read_table : List ℕ → Parsed Laid
read_table s = all_of most_table table_fields s

-- The table that good bytes hold. (Of other bytes nothing is said: they count as an empty one.)
abbrev pub table_in : Parsed Laid → Table
table_in (got l at) = table_of l
table_in (bad e) = record { names = record { spaces = []; bindings = [] }; accesses = []; delegations = [] }

unfoldable pub table_at : List ℕ → Table
table_at s = table_in (read_table s)

-- ---- its bytes
abbrev pub section_bytes : {A : Type 0} → (A → List ℕ) → List A → List ℕ
section_bytes E l = bytes_of (length l) ++ many_bytes E l

unfoldable pub table_bytes : Table → List ℕ
table_bytes t =
    bytes_of 1
    ++ (section_bytes (λ (k : Key). bytes_of k.0) t.names.spaces
    ++ (section_bytes binding_bytes t.names.bindings ++ (section_bytes access_bytes t.accesses ++ section_bytes delegation_bytes t.delegations)))

-- ---- as code answers
abbrev pub sections_of : Laid → Sections
sections_of l = record {
  spaces = section_of l.spaces;
  bindings = section_of l.bindings;
  accesses = section_of l.accesses;
  delegations = section_of l.delegations;
}

abbrev pub loaded_of : Parsed Laid → Result Sections Fault
loaded_of (got l at) = Ok (sections_of l)
loaded_of (bad e) = Err e
