-- What records become, written one behind the other in a loop.
use mathlib.Core.Path.{◌≡◌, refl, sym, ◌∙◌, ap}
use mathlib.Core.List.{List, ◌++◌}
use Prim.Native.Nat.{ℕ, ◌+◌, ◌<◌, ◌≤◌}
use native.Mathlib.Omega.{arith}
use lib.ListN.{length, take, drop, length-append, take-append-drop}
use lib.Seq.{take_all}
use Rattle.rules.specs.Translation.{InOrder}
use Rattle.wire.specs.Placed.{placed}
use Rattle.wire.proofs.PlacedLaws.{placed_none, placed_length, placed_next}
use Rattle.records.specs.Many.{many_bytes}
use Rattle.records.proofs.ManyLaws.{many_take, many_append}
use Rattle.translation.specs.Becoming.{Becomes, Puts, put, left, RoomFor}
use Rattle.translation.specs.declared.sections.Written.{Written}
use Rattle.translation.proofs.OrderLaws.{Passed, passed_start, passed_end, next_kept, next_omitted}

-- What the first `i` records became stands from `from` on.
pub record Writing {A B : Type 0} (T : A → B → Type 0) (E : B → List ℕ) (l : List A) (m : List B) (s : List ℕ) (from : ℕ) (out : List ℕ) (written : Written) (i : ℕ) : Type 0 where
  pub passed : Passed T l m i written.count
  pub place : written.end ≡ from + length (many_bytes E (take written.count m))
  pub held : out ≡ placed s from (many_bytes E (take written.count m))
  pub size : length out ≡ length s

module _ {A B : Type 0} (T : A → B → Type 0) (E : B → List ℕ) (l : List A) (m : List B) (s : List ℕ) (from : ℕ) where
  pub writing_start : InOrder T l m → Writing T E l m s from s (record { count = 0; end = from }) 0
  unfolding many_bytes
  writing_start o = record { passed = passed_start T l m o; place = omega arith; held = sym (placed_none s from); size = refl }

  module _ (out : List ℕ) (written : Written) (i : ℕ) (w : Writing T E l m s from out written i) where
    pub writing_end : length l ≤ i → (written.count ≡ length m) × (written.end ≡ from + length (many_bytes E m)) × (out ≡ placed s from (many_bytes E m))
    writing_end h =
        let c : written.count ≡ length m = passed_end T l m i written.count w.passed h in
        let a : take written.count m ≡ m = take_all written.count m (omega (arith, c)) in
        (c, w.place ∙ ap (λ (k : List B). from + length (many_bytes E k)) a, w.held ∙ ap (λ (k : List B). placed s from (many_bytes E k)) a)

    module _ (single : (x : A) (y z : B) → T x y → T x z → y ≡ z) (room : from + length (many_bytes E m) ≤ length s) where
      -- How many are written, and their bytes.
      abbrev n : ℕ
      n = written.count

      abbrev bytes : List ℕ
      bytes = many_bytes E (take n m)

      pub writing_within : written.end ≤ length out
      writing_within =
          let a : many_bytes E m ≡ bytes ++ many_bytes E (drop n m) = ap (many_bytes E) (sym (take-append-drop n m)) ∙ many_append E (take n m) (drop n m) in
          omega (arith, w.place, w.size, room, ap length a, length-append bytes (many_bytes E (drop n m)))

      module _ (h : i < length l) where
        module _ (y : B) (b : Becomes T l i y) where
          more : many_bytes E (take (n + 1) m) ≡ bytes ++ E y
          more =
              let k = (next_kept T l m single i n w.passed h y b).0 in
              many_take E m n y k.there ∙ ap (λ (z : B). bytes ++ E z) k.is

          -- There is room for the next.
          room_for : written.end + length (E y) ≤ length out
          room_for =
              let a : many_bytes E m ≡ many_bytes E (take (n + 1) m) ++ many_bytes E (drop (n + 1) m) = ap (many_bytes E) (sym (take-append-drop (n + 1) m)) ∙ many_append E (take (n + 1) m) (drop (n + 1) m) in
              omega (arith, w.place, w.size, room, ap length a, length-append (many_bytes E (take (n + 1) m)) (many_bytes E (drop (n + 1) m)), ap length more, length-append bytes (E y))

          put_on : Writing T E l m s from (placed out written.end (E y)) (record { count = n + 1; end = written.end + length (E y) }) (i + 1)
          put_on = record {
            passed = (next_kept T l m single i n w.passed h y b).1;
            place = omega (arith, w.place, ap length more, length-append bytes (E y));
            held = placed_next s bytes (E y) out (placed out written.end (E y)) from written.end w.held w.place (omega (arith, room_for, w.size)) refl ∙ ap (λ (k : List ℕ). placed s from k) (sym more);
            size = placed_length out (E y) written.end room_for ∙ w.size;
          }

        pub writing_room : RoomFor (Becomes T l i) E out written.end
        writing_room = record { room = room_for }

        pub writing_on : (last : List ℕ) (next : Written) → Puts (Becomes T l i) E out written last next → Writing T E l m s from last next (i + 1)
        writing_on last next (put {y = y} b) = put_on y b
        writing_on last next (left f) = record { passed = next_omitted T l m single i n w.passed h f; place = w.place; held = w.held; size = w.size }
