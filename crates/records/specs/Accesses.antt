-- Access record: space number (the owner), object, right, path, depth.
use Rattle.std.specs.Prelude.{List, ◌++◌, ℕ}
use Rattle.rules.specs.Tables.{AccessRecord}
use Rattle.wire.specs.Number.{bytes_of}
use Rattle.records.specs.Parsed.{Reader, ◌⊗◌, mapped}
use Rattle.records.specs.Fields.{space_field, use_fields, depth_field}
use Rattle.records.specs.Paths.{path_field, path_bytes, path_value}
use Rattle.records.specs.declared.accesses.Access.{Access}

unfoldable pub access_record : ℕ → Reader AccessRecord
access_record spaces =
    mapped (λ w. record { owner = w.0; object = w.1.0.0; right = w.1.0.1; path = w.1.1.0; depth = w.1.1.1 })
    (space_field spaces ⊗ use_fields ⊗ path_field ⊗ depth_field)

-- ---- its bytes
abbrev pub access_bytes : AccessRecord → List ℕ
access_bytes x = bytes_of x.owner.0 ++ ((bytes_of x.object ++ bytes_of x.right) ++ (path_bytes x.path ++ bytes_of x.depth))

-- ---- as code holds it
abbrev pub access_value : AccessRecord → Access
access_value x = record { owner = x.owner; wanted = record { object = x.object; right = x.right }; path = path_value x.path; depth = record { 0 = x.depth } }
