-- Target: 0 and a key, or 1, a space number and a path.
use Rattle.std.specs.Prelude.{List, ◌++◌, ℕ, eqb}
use Rattle.rules.specs.Choice.{pick}
use Rattle.rules.specs.Tables.{Target, to_key, to_name}
use Rattle.wire.specs.Number.{bytes_of}
use Rattle.records.specs.Parsed.{Reader, ◌⟫◌, ◌⊗◌, mapped}
use Rattle.records.specs.Fields.{field, space_field, key_field}
use Rattle.records.specs.Paths.{path_field, path_bytes, path_value, path_of}
use Rattle.records.specs.declared.targets.Target.{Target as TargetValue}
use Rattle.records.specs.declared.targets.Target.TheVariants as as_target

unfoldable pub name_fields : ℕ → Reader Target
name_fields spaces = mapped (λ w. to_name w.0 w.1) (space_field spaces ⊗ path_field)

unfoldable pub target_field : ℕ → Reader Target
target_field spaces s at = field 0 1 s at ⟫ λ form at. pick (eqb form 0) (mapped to_key key_field s at) (name_fields spaces s at)

-- ---- its bytes
abbrev pub target_bytes : Target → List ℕ
target_bytes (to_key k) = bytes_of 0 ++ bytes_of k.0
target_bytes (to_name S p) = bytes_of 1 ++ (bytes_of S.0 ++ path_bytes p)

-- ---- as code holds it
abbrev pub target_value : Target → TargetValue
target_value (to_key k) = as_target.Key k
target_value (to_name S p) = as_target.Name S (path_value p)

abbrev pub target_of : TargetValue → Target
target_of (as_target.Key k) = to_key k
target_of (as_target.Name S p) = to_name S (path_of p)
