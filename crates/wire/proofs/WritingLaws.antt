-- One step of writing in the code's terms: what it leaves in the slice.
use mathlib.Core.Path.{◌≡◌, refl, sym, ap, ◌∙◌}
use mathlib.Core.List.{List, [], ◌∷◌}
use Prim.Native.Nat.{ℕ, ◌+◌, ◌-◌, ◌/◌, ◌%◌, ◌^◌, ◌≤◌, ◌<◌}
use native.Mathlib.Omega.{arith}
use lib.ListN.{length, take, drop, set, length-set, length-drop}
use borrow.Rule.Slice.PartMut.{put_mid}
use Rattle.wire.specs.Number.{bytes_of}
use Rattle.wire.specs.Placed.{placed}
use Rattle.wire.proofs.PartsLaws.{rest_of}
use Rattle.wire.proofs.PlacedLaws.{placed_one, placed_on, placed_rest}
use Rattle.wire.proofs.NumberLaws.{bytes_last, bytes_on, bytes_some}

-- The slice once a first byte with a set top bit is stored.
abbrev pub begun : List ℕ → ℕ → List ℕ
begun out v = set out 0 (128 + v % 128)

-- What is left of a slice after its first byte.
abbrev pub behind : List ℕ → List ℕ
behind s = take (length s - 1) (drop 1 s)

module _ (out : List ℕ) (v : ℕ) (room : length (bytes_of v) ≤ length out) where
  pub written_last : v < 128 → (1 ≡ length (bytes_of v)) × (set out 0 v ≡ placed out 0 (bytes_of v))
  written_last h = rw (bytes_last v h) (refl, placed_one out 0 v (omega (arith, bytes_some v)))

  module _ (h : 128 ≤ v) (f : v < 2 ^ 32) where
    pub room_on : length (bytes_of (v / 128)) ≤ length (behind (begun out v))
    room_on = rw (rest_of (begun out v) 1, length-drop, length-set) (omega (arith, ap length (bytes_on v h f)))

    pub written_on : (last : List ℕ) (r : ℕ) → (r ≡ length (bytes_of (v / 128))) × (last ≡ placed (behind (begun out v)) 0 (bytes_of (v / 128)))
        → (r + 1 ≡ length (bytes_of v)) × (put_mid 1 (length (begun out v) - 1) (begun out v) last ≡ placed out 0 (bytes_of v))
    written_on last r w =
        let b = 128 + v % 128 in
        let rest = bytes_of (v / 128) in
        let one : 0 < length out = omega (arith, bytes_some v) in (
          omega (arith, w.0, ap length (bytes_on v h f)),
          placed_rest (begun out v) last rest 1 w.1
              ∙ ap (λ (s : List ℕ). placed s 1 rest) (placed_one out 0 b one)
              ∙ placed_on out (b ∷ []) rest 0 (omega arith)
              ∙ ap (placed out 0) (sym (bytes_on v h f)),
        )
