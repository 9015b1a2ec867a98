-- A number seen at a glance: most numbers are told so, and the others are left to reading.
use Rattle.std.specs.Prelude.{◌≡◌, List, ℕ, ◌+◌, ◌≤◌, drop}
use Rattle.wire.specs.Number.{Value, number_at}

-- The number at a place, from `low` to `high`, and the place after it.
pub record Glances (low high : ℕ) (s : List ℕ) (at value next : ℕ) : Type 0 where
  pub most : value ≤ high
  pub least : low ≤ value
  pub told : (n : ℕ) × (number_at (drop at s) ≡ Value value n) × (next ≡ at + n)
