-- How much of a buffer is filled.
use Rattle.std.specs.Prelude.{◌≡◌, List, ℕ, ◌≤◌, length, take}

-- The first `n` stand within the buffer, and are `n`. The second half follows from the first.
abbrev pub IsPrefixLen : ℕ → List ℕ → Type 0
IsPrefixLen n s = (n ≤ length s) × (n ≡ length (take n s))
