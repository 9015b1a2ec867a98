-- Numbers written one behind the other in a loop.
use mathlib.Core.Path.{◌≡◌, refl, sym, ◌∙◌, ap}
use mathlib.Core.List.{List, ◌++◌}
use Prim.Native.Nat.{ℕ, ◌+◌, ◌<◌, ◌≤◌}
use native.Mathlib.Omega.{arith}
use lib.ListN.{length, take, drop, get_or, length-append, take-append-drop}
use lib.Seq.{take_all}
use Rattle.wire.specs.Number.{bytes_of}
use Rattle.wire.specs.Placed.{placed}
use Rattle.wire.proofs.PlacedLaws.{placed_none, placed_length, placed_next}
use Rattle.records.specs.Many.{many_bytes}
use Rattle.records.proofs.ManyLaws.{many_take, many_append}

abbrev all_bytes : List ℕ → List ℕ
all_bytes = many_bytes bytes_of

-- The first `i` of the numbers stand from `from` on, and the next place is `at`.
pub record Putting (s : List ℕ) (from : ℕ) (numbers out : List ℕ) (at i : ℕ) : Type 0 where
  pub most : i ≤ length numbers
  pub place : at ≡ from + length (all_bytes (take i numbers))
  pub held : out ≡ placed s from (all_bytes (take i numbers))
  pub size : length out ≡ length s

pub putting_start : (s : List ℕ) (from : ℕ) (numbers : List ℕ) → Putting s from numbers s from 0
unfolding many_bytes
putting_start s from numbers = record { most = omega arith; place = omega arith; held = sym (placed_none s from); size = refl }

module _ (s : List ℕ) (from : ℕ) (numbers : List ℕ) (room : from + length (all_bytes numbers) ≤ length s) (out : List ℕ) (at i : ℕ) (p : Putting s from numbers out at i) where
  module _ (h : i < length numbers) (v : ℕ) (e : v ≡ get_or numbers i 0) where
    more : all_bytes (take (i + 1) numbers) ≡ all_bytes (take i numbers) ++ bytes_of v
    more = rw e (many_take bytes_of numbers i 0 h)

    split : length (all_bytes numbers) ≡ length (all_bytes (take i numbers)) + length (bytes_of v) + length (all_bytes (drop (i + 1) numbers))
    split =
        let whole : all_bytes numbers ≡ all_bytes (take (i + 1) numbers) ++ all_bytes (drop (i + 1) numbers) = ap all_bytes (sym (take-append-drop (i + 1) numbers)) ∙ many_append bytes_of (take (i + 1) numbers) (drop (i + 1) numbers) in
        omega (arith, ap length whole, length-append (all_bytes (take (i + 1) numbers)) (all_bytes (drop (i + 1) numbers)), ap length more, length-append (all_bytes (take i numbers)) (bytes_of v))

    pub putting_room : at + length (bytes_of v) ≤ length out
    putting_room = omega (arith, split, p.place, p.size, room)

    pub putting_on : (next : ℕ) (last : List ℕ) → (next ≡ at + length (bytes_of v)) × (last ≡ placed out at (bytes_of v)) → Putting s from numbers last next (i + 1)
    putting_on next last w = record {
      most = omega arith;
      place = omega (arith, w.0, p.place, ap length more, length-append (all_bytes (take i numbers)) (bytes_of v));
      held = placed_next s (all_bytes (take i numbers)) (bytes_of v) out last from at p.held p.place (omega (arith, p.place, split, room)) w.1
          ∙ ap (λ (b : List ℕ). placed s from b) (sym more);
      size = ap length w.1 ∙ placed_length out (bytes_of v) at putting_room ∙ p.size;
    }

  pub putting_end : length numbers ≤ i → (at ≡ from + length (all_bytes numbers)) × (out ≡ placed s from (all_bytes numbers))
  putting_end h =
      let a : take i numbers ≡ numbers = take_all i numbers h in
      (p.place ∙ ap (λ (l : List ℕ). from + length (all_bytes l)) a, p.held ∙ ap (λ (l : List ℕ). placed s from (all_bytes l)) a)
