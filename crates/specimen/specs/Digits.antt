-- Hexadecimal digits, as bytes: 0 to 9, then A to F.
use Rattle.std.specs.Prelude.{ℕ, ◌+◌, ltb}
use Rattle.rules.specs.Choice.{pick}

abbrev pub digit_of : ℕ → ℕ
digit_of n = pick (ltb n 10) (48 + n) (55 + n)
