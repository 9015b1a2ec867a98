-- The examples that are printed for the format, by computation.
use mathlib.Core.Path.{◌≡◌, refl}
use mathlib.Core.List.{[], ◌∷◌}
use Rattle.wire.specs.Number.{Value, Cut, Wrong}
use Rattle.wire.specs.Number.{joined, groups_at, number_at, groups_of, bytes_of}

-- 127 is `7F`.
one_byte : (number_at (0x7f ∷ []) ≡ Value 127 1) × (bytes_of 127 ≡ 0x7f ∷ [])
unfolding groups_at groups_of
one_byte = (refl, refl)

-- 128 is `80 01`.
two_bytes : (number_at (0x80 ∷ 0x01 ∷ []) ≡ Value 128 2) × (bytes_of 128 ≡ 0x80 ∷ 0x01 ∷ [])
unfolding groups_at joined groups_of
two_bytes = (refl, refl)

-- `80 00` is wrong.
not_shortest : number_at (0x80 ∷ 0x00 ∷ []) ≡ Wrong
unfolding groups_at joined
not_shortest = refl

-- `FF FF FF FF 0F` is the largest.
largest : (number_at (0xff ∷ 0xff ∷ 0xff ∷ 0xff ∷ 0x0f ∷ []) ≡ Value 4294967295 5) × (bytes_of 4294967295 ≡ 0xff ∷ 0xff ∷ 0xff ∷ 0xff ∷ 0x0f ∷ [])
unfolding groups_at joined groups_of
largest = (refl, refl)

-- `FF FF FF FF 10` is wrong.
too_large : number_at (0xff ∷ 0xff ∷ 0xff ∷ 0xff ∷ 0x10 ∷ []) ≡ Wrong
unfolding groups_at joined
too_large = refl

-- No bytes at all are cut.
no_bytes : number_at [] ≡ Cut
unfolding groups_at
no_bytes = refl

-- Four bytes with set top bits, and then the end, are cut.
four_and_the_end : number_at (0xff ∷ 0xff ∷ 0xff ∷ 0xff ∷ []) ≡ Cut
unfolding groups_at joined
four_and_the_end = refl

-- Five bytes with set top bits are wrong, whether or not a sixth follows.
five_and_the_end : number_at (0xff ∷ 0xff ∷ 0xff ∷ 0xff ∷ 0x8f ∷ []) ≡ Wrong
unfolding groups_at joined
five_and_the_end = refl

five_and_a_sixth : number_at (0xff ∷ 0xff ∷ 0xff ∷ 0xff ∷ 0x8f ∷ 0x00 ∷ []) ≡ Wrong
unfolding groups_at joined
five_and_a_sixth = refl
