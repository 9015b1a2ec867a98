-- Binding: space number, base name, target.
use Rattle.std.specs.Prelude.{Bool, true, false, ◌&&◌, List, [], ◌∷◌, ◌++◌, ℕ, ◌+◌, ◌*◌, eqb}
use Rattle.rules.specs.Choice.{pick}
use Rattle.rules.specs.Ranges.{most_base}
use Rattle.rules.specs.Tables.{Binding}
use Rattle.rules.specs.declared.Space.{Space}
use Rattle.wire.specs.Number.{bytes_of}
use Rattle.records.specs.Parsed.{got, bad, Reader, fault_at, ◌⟫◌}
use Rattle.records.specs.Fields.{field, space_field}
use Rattle.records.specs.Targets.{target_field, target_bytes, target_value}
use Rattle.records.specs.declared.faults.Kind.TheVariants as kind
use Rattle.records.specs.declared.bindings.Binding.{Binding as BindingValue}

-- Twice points at a base name that is bound in its space already, before any fault of the target.
unfoldable pub binding_record : ℕ → (Space → ℕ → Bool) → Reader Binding
binding_record spaces bound s at =
    space_field spaces s at ⟫ λ space at.
    field 1 most_base s at ⟫ λ base after.
    pick (bound space base) (bad (fault_at kind.Twice at))
    (target_field spaces s after ⟫ λ target at. got (record { space = space; base = base; target = target }) at)

-- The base name is bound in the space by one of the bindings.
unfoldable pub is_bound : List Binding → Space → ℕ → Bool
is_bound [] S b = false
is_bound (x ∷ l) S b = pick (eqb x.space.0 S.0 && eqb x.base b) true (is_bound l S b)

-- ---- its bytes
abbrev pub binding_bytes : Binding → List ℕ
binding_bytes x = bytes_of x.space.0 ++ (bytes_of x.base ++ target_bytes x.target)

-- ---- as code holds it; and the name that it binds, as one number
abbrev pub binding_value : Binding → BindingValue
binding_value x = record { space = x.space; base = x.base; target = target_value x.target }

abbrev pub packed : Space → ℕ → ℕ
packed S b = S.0 * 65536 + b
