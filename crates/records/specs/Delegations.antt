-- Delegation: space number (the writer), owner path, object, right, delegatee path, depth.
use Rattle.std.specs.Prelude.{List, ◌++◌, ℕ}
use Rattle.rules.specs.Tables.{Delegation}
use Rattle.wire.specs.Number.{bytes_of}
use Rattle.records.specs.Parsed.{Reader, ◌⊗◌, mapped}
use Rattle.records.specs.Fields.{space_field, use_fields, depth_field}
use Rattle.records.specs.Paths.{path_field, path_bytes, path_value}
use Rattle.records.specs.declared.delegations.Delegation.{Delegation as DelegationValue}

unfoldable pub delegation_record : ℕ → Reader Delegation
delegation_record spaces =
    mapped
    (λ w. record { writer = w.0; owner_path = w.1.0; object = w.1.1.0.0; right = w.1.1.0.1; delegatee_path = w.1.1.1.0; depth = w.1.1.1.1 })
    (space_field spaces ⊗ path_field ⊗ use_fields ⊗ path_field ⊗ depth_field)

-- ---- its bytes
abbrev pub delegation_bytes : Delegation → List ℕ
delegation_bytes x =
    bytes_of x.writer.0
    ++ (path_bytes x.owner_path ++ ((bytes_of x.object ++ bytes_of x.right) ++ (path_bytes x.delegatee_path ++ bytes_of x.depth)))

-- ---- as code holds it
abbrev pub delegation_value : Delegation → DelegationValue
delegation_value x = record {
  writer = x.writer;
  owner = path_value x.owner_path;
  wanted = record { object = x.object; right = x.right };
  delegatee = path_value x.delegatee_path;
  depth = record { 0 = x.depth };
}
