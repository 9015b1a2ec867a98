-- Numbers as bytes. All numbers stand in groups of seven bits, low group first; the top bit is set in every byte but the last.
-- At most five bytes, shortest form only, at most 4,294,967,295. What breaks this is `Wrong`, the answer Number.
use Rattle.std.specs.Prelude.{List, [], ◌∷◌, ℕ, zero, suc, ◌+◌, ◌-◌, ◌*◌, ◌/◌, ◌%◌, ◌<◌, ltb, leb, eqb, get_or, Result, Ok, Err}
use Rattle.rules.specs.Choice.{pick}
use Rattle.wire.specs.declared.NumberFault.{NumberFault}
use Rattle.wire.specs.declared.NumberFault.TheVariants as fault

abbrev pub most_number : ℕ
most_number = 4294967295

abbrev pub most_bytes : ℕ
most_bytes = 5

-- ---- reading
-- What bytes hold where a number is to begin: the number and the bytes it takes, or why there is none.
pub data Number : Type 0 where
  Value : ℕ → ℕ → Number
  Cut : Number
  Wrong : Number

-- The group of a byte with a set top bit, before the number that the groups after it hold.
unfoldable pub joined : ℕ → Number → Number
-- Shortest form only, so the groups after it are not 0; at most 4,294,967,295.
joined low (Value high n) = pick (eqb high 0) Wrong (pick (leb (low + 128 * high) most_number) (Value (low + 128 * high) (n + 1)) Wrong)
joined low Cut = Cut
joined low Wrong = Wrong

-- The number whose groups `s` begins with, where at most so many bytes are left to it.
unfoldable pub groups_at : ℕ → List ℕ → Number
-- A set top bit in the fifth byte is Number.
groups_at zero s = Wrong
-- A number is Cut if the bytes end within its first five bytes before a byte with a clear top bit.
groups_at (suc left) [] = Cut
-- The top bit is set in every byte but the last; low group first.
groups_at (suc left) (b ∷ s) = pick (ltb b 128) (Value b 1) (joined (b - 128) (groups_at left s))

-- THE NUMBER that `s` begins with.
abbrev pub number_at : List ℕ → Number
number_at s = groups_at most_bytes s

-- As code answers.
abbrev pub number_read : Number → Result (ℕ × ℕ) NumberFault
number_read (Value v n) = Ok (v, n)
number_read Cut = Err fault.Cut
number_read Wrong = Err fault.Wrong

-- ---- writing
-- The groups of `v`, in at most so many bytes.
unfoldable pub groups_of : ℕ → ℕ → List ℕ
groups_of zero v = []
groups_of (suc left) v = pick (ltb v 128) (v ∷ []) ((128 + v % 128) ∷ groups_of left (v / 128))

-- THE BYTES of `v`.
abbrev pub bytes_of : ℕ → List ℕ
bytes_of v = groups_of most_bytes v

-- Every element is a byte.
pub record Bytes (s : List ℕ) : Type 0 where
  pub small : (i : ℕ) → get_or s i 0 < 256
