-- The fields of records: each a number in its range.
use Rattle.std.specs.Prelude.{Bool, ◌&&◌, ℕ, ◌+◌, leb, ltb, drop}
use Rattle.rules.specs.Choice.{pick}
use Rattle.rules.specs.Depths.{top}
use Rattle.rules.specs.Ranges.{most_key, most_object, most_right}
use Rattle.rules.specs.declared.Depth.{Depth}
use Rattle.rules.specs.declared.Key.{Key}
use Rattle.rules.specs.declared.Space.{Space}
use Rattle.wire.specs.Number.{Number, Value, Cut, Wrong, number_at}
use Rattle.records.specs.Parsed.{Parsed, got, bad, Reader, fault_at, ◌⟫◌, ◌⊗◌, mapped}
use Rattle.records.specs.declared.faults.Kind.{Kind}
use Rattle.records.specs.declared.faults.Kind.TheVariants as kind
use Rattle.records.specs.declared.fields.Use.{Use}

-- A number is Cut if the bytes end before it is whole, else Number if it is not in shortest form or too large.
unfoldable pub found_at : ℕ → Number → Parsed ℕ
found_at at (Value v n) = got v (at + n)
found_at at Cut = bad (fault_at kind.Cut at)
found_at at Wrong = bad (fault_at kind.Number at)

unfoldable pub any_number : Reader ℕ
any_number s at = found_at at (number_at (drop at s))

-- A number that is to pass a test, or that fault.
abbrev pub tested : Kind → (ℕ → Bool) → Reader ℕ
tested k ok s at = any_number s at ⟫ λ v next. pick (ok v) (got v next) (bad (fault_at k at))

abbrev pub between : ℕ → ℕ → ℕ → Bool
between low high v = leb low v && leb v high

-- A number from `low` to `high`, else Range.
unfoldable pub field : ℕ → ℕ → Reader ℕ
field low high = tested kind.Range (between low high)

-- A space number is below the count of spaces, else Range.
unfoldable pub space_field : ℕ → Reader Space
space_field spaces = mapped (λ v. record { 0 = v }) (tested kind.Range (λ v. ltb v spaces))

unfoldable pub key_field : Reader Key
key_field = mapped (λ v. record { 0 = v }) (field 1 most_key)

unfoldable pub depth_field : Reader ℕ
depth_field = tested kind.Range (λ v. leb v top)

-- An object and a right.
unfoldable pub use_fields : Reader (ℕ × ℕ)
use_fields = field 0 most_object ⊗ field 1 most_right

-- ---- as code holds them
abbrev pub depth_value : ℕ → Depth
depth_value d = record { 0 = d }

abbrev pub use_value : ℕ × ℕ → Use
use_value u = record { object = u.0; right = u.1 }
