-- How code reads a number: group by group, from the first on.
use Rattle.std.specs.Prelude.{ℕ, zero, suc, ◌+◌, ◌*◌, leb, eqb}
use Rattle.rules.specs.Choice.{pick}
use Rattle.wire.specs.Number.{most_number}
use Rattle.wire.specs.Number.{Number, Value, Cut, Wrong}

-- The number that is `value` in all, with so many bytes before its last.
unfoldable pub ended : ℕ → ℕ → ℕ → Number
ended value i last = pick (eqb i 0) (Value value 1) (pick (eqb last 0) Wrong (pick (leb value most_number) (Value value (i + 1)) Wrong))

-- `i` groups that hold `value`, before the number that the groups after them hold, which counts `unit`.
unfoldable pub behind : ℕ → ℕ → ℕ → Number → Number
behind zero value unit m = m
behind (suc i) value unit (Value high n) = pick (eqb high 0) Wrong (pick (leb (value + unit * high) most_number) (Value (value + unit * high) (n + suc i)) Wrong)
behind (suc i) value unit Cut = Cut
behind (suc i) value unit Wrong = Wrong
