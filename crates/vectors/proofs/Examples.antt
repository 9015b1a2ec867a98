-- Published values of FNV-1a of 32 bits.
use mathlib.Core.Path.{◌≡◌, refl}
use mathlib.Core.List.{[], ◌∷◌}
use Rattle.vectors.specs.Hashes.{hash_of, four_bytes}

-- No bytes: 811c9dc5.
pub hash_of_nothing : hash_of [] ≡ 2166136261
hash_of_nothing = refl

-- `a`: e40c292c.
pub hash_of_a : hash_of (97 ∷ []) ≡ 3826002220
hash_of_a = refl

-- `foobar`: bf9cf968.
pub hash_of_foobar : hash_of (102 ∷ 111 ∷ 111 ∷ 98 ∷ 97 ∷ 114 ∷ []) ≡ 3214735720
hash_of_foobar = refl

-- A number's bytes, lowest first.
pub four_bytes_of : four_bytes 67305985 ≡ 1 ∷ 2 ∷ 3 ∷ 4 ∷ []
four_bytes_of = refl
