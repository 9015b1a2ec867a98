-- A section's records, written before their count: what is moved, and the count put before it.
use mathlib.Core.Path.{◌≡◌, refl, sym, ◌∙◌, ap}
use mathlib.Core.List.{List, ◌++◌, append_assoc}
use Prim.Native.Nat.{ℕ, ◌+◌, ◌-◌, ◌/◌, ◌<◌, ◌≤◌}
use native.Mathlib.Omega.{arith}
use lib.ListN.{length, take, drop, length-drop, length-append}
use lib.Seq.{take_at, length-take-le}
use Rattle.std.specs.List.{copy_within}
use Rattle.wire.specs.Number.{bytes_of}
use Rattle.wire.specs.Placed.{placed}
use Rattle.wire.proofs.NumberLaws.{bytes_last, bytes_on, bytes_some}
use Rattle.wire.proofs.PlacedLaws.{placed_length, placed_drop, placed_under, placed_over, placed_again}
use Rattle.records.specs.Many.{many_bytes}
use Rattle.table.specs.ReadTable.{section_bytes}
use Rattle.translation.specs.declared.sections.Written.{Written}

-- ---- the count before the records that stand from the place after `at` on
module _ (out : List ℕ) (at : ℕ) (written : Written)
    (pre : (at < written.end) × (written.count < 16384) × (written.end + length (bytes_of written.count) ≤ length out + 1)) where
  -- The records' bytes.
  abbrev behind : List ℕ
  behind = take (written.end - (at + 1)) (drop (at + 1) out)

  behind_length : written.end ≤ length out → length behind ≡ written.end - (at + 1)
  behind_length h = length-take-le (written.end - (at + 1)) (drop (at + 1) out) (simp length-drop (omega (arith, pre.0)))

  -- A count that takes one byte stands before them,
  module _ (short : written.count < 128) where
    one_byte : length (bytes_of written.count) ≡ 1
    one_byte = ap length (bytes_last written.count short)

    pub counted_before : (last : List ℕ) → last ≡ placed out at (bytes_of written.count)
        → (written.end + 1 ≡ written.end + length (bytes_of written.count)) × (last ≡ placed out at (bytes_of written.count ++ behind))
    counted_before last e =
        let x = bytes_of written.count in
        let h : written.end ≤ length out = omega (arith, pre.2, one_byte) in
        let p : placed out (at + length x) behind ≡ out = rw one_byte (placed_again out (at + 1) (written.end - (at + 1)) (omega (arith, pre.0))) in
        (omega (arith, one_byte), e ∙ ap (λ (s : List ℕ). placed s at x) (sym p) ∙ placed_under out x behind at (omega (arith, one_byte, behind_length h, pre.0)))

  -- and before one that takes two they are moved.
  module _ (long : 128 ≤ written.count) where
    two_bytes : length (bytes_of written.count) ≡ 2
    two_bytes =
        omega (arith, ap length (bytes_on written.count long (omega (arith, pre.1))), ap length (bytes_last (written.count / 128) (omega (arith, pre.1))))

    pub room_to_move : written.end < length out
    room_to_move = omega (arith, pre.2, two_bytes)

    moved_up : copy_within out (at + 1) written.end (at + 2) ≡ placed out (at + 2) behind
    unfolding placed
    moved_up = let n : length behind ≡ written.end - (at + 1) = behind_length (omega (arith, room_to_move)) in rw (n, append_assoc) refl

    pub counted_moved : (moved last : List ℕ) → moved ≡ copy_within out (at + 1) written.end (at + 2) → last ≡ placed moved at (bytes_of written.count)
        → (written.end + 1 + 1 ≡ written.end + length (bytes_of written.count)) × (last ≡ placed out at (bytes_of written.count ++ behind))
    counted_moved moved last m e =
        let x = bytes_of written.count in
        let n : at + 2 ≡ at + length x = omega (arith, two_bytes) in
        let p : moved ≡ placed out (at + length x) behind = m ∙ moved_up ∙ ap (λ (k : ℕ). placed out k behind) n in
        (omega (arith, two_bytes), e ∙ ap (λ (s : List ℕ). placed s at x) p ∙ placed_under out x behind at (omega (arith, two_bytes, behind_length (omega (arith, room_to_move)), pre.0, room_to_move)))

-- ---- a section
module _ {B : Type 0} (E : B → List ℕ) (m : List B) (out : List ℕ) (at : ℕ) (few : length m < 16384) (room : at + length (section_bytes E m) ≤ length out) where
  abbrev count : List ℕ
  count = bytes_of (length m)

  abbrev records : List ℕ
  records = many_bytes E m

  lengths : at + length count + length records ≤ length out
  lengths = omega (arith, room, length-append count records)

  -- There is room for the records behind one byte,
  pub records_room : at + 1 + length records ≤ length out
  records_room = omega (arith, lengths, bytes_some (length m))

  module _ (written : Written) (o : List ℕ) (w : (written.count ≡ length m) × (written.end ≡ at + 1 + length records) × (o ≡ placed out (at + 1) records)) where
    -- and for the count,
    pub count_room : (at < written.end) × (written.count < 16384) × (written.end + length (bytes_of written.count) ≤ length o + 1)
    count_room =
        (omega (arith, w.1), omega (arith, w.0, few), rw w.0 (omega (arith, w.1, lengths, ap length w.2, placed_length out records (at + 1) records_room)))

    -- and with it before them they are the section.
    pub section_written : (r : ℕ) (last : List ℕ)
        → (r + 1 ≡ written.end + length (bytes_of written.count)) × (last ≡ placed o at (bytes_of written.count ++ take (written.end - (at + 1)) (drop (at + 1) o)))
        → (r ≡ at + length (section_bytes E m)) × (last ≡ placed out at (section_bytes E m))
    section_written r last p =
        let n : written.end - (at + 1) ≡ length records = omega (arith, w.1) in
        let d : drop (at + 1) o ≡ records ++ drop (at + 1 + length records) out = ap (drop (at + 1)) w.2 ∙ placed_drop out records (at + 1) records_room in
        let k : take (written.end - (at + 1)) (drop (at + 1) o) ≡ records = rw (n, d) (take_at records (drop (at + 1 + length records) out) (length records) refl) in
        let c : length (bytes_of written.count) ≡ length count = ap (λ (j : ℕ). length (bytes_of j)) w.0 in (
          omega (arith, p.0, c, w.1, length-append count records),
          p.1 ∙ rw (k, w.0, w.2) (placed_over out records (count ++ records) (at + 1) at records_room (omega arith) (omega (arith, length-append count records, bytes_some (length m)))),
        )
