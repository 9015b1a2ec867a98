-- Hashes of byte strings: FNV-1a of 32 bits.
use Rattle.std.specs.Prelude.{List, [], ◌∷◌, ℕ, ◌*◌, ◌/◌, ◌%◌, ◌^◌, fold}
use Rattle.std.specs.Int.Bits.{bit_xor}
use Rattle.records.specs.Many.{many_bytes}

-- The hash of no bytes.
abbrev pub hash_start : ℕ
hash_start = 2166136261

-- The hash with one byte more: exclusive or, then a product modulo 2 ^ 32.
abbrev pub hashed : ℕ → ℕ → ℕ
hashed h b = bit_xor b h * 16777619 % 2 ^ 32

-- The hash with these bytes more.
abbrev pub hash_from : ℕ → List ℕ → ℕ
hash_from h s = fold hashed h s

abbrev pub hash_of : List ℕ → ℕ
hash_of s = hash_from hash_start s

-- A number below 2 ^ 32 as 4 bytes, lowest first.
abbrev pub four_bytes : ℕ → List ℕ
four_bytes n = n % 256 ∷ n / 256 % 256 ∷ n / 65536 % 256 ∷ n / 16777216 ∷ []

-- A row of numbers.
abbrev pub numbers_bytes : List ℕ → List ℕ
numbers_bytes l = many_bytes four_bytes l
