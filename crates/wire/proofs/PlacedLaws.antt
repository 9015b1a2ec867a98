-- Laws of bytes that are written into a slice.
use mathlib.Core.Path.{◌≡◌, ◌∙◌}
use mathlib.Core.List.{List, [], ◌∷◌, ◌++◌, append_assoc}
use Prim.Native.Nat.{ℕ, ◌+◌, ◌-◌, ◌≤◌, ◌<◌}
use native.Mathlib.Nat.{add-zero, add_assoc}
use native.Mathlib.Numerals.{add-one}
use native.Mathlib.Omega.{arith}
use lib.ListN.{length, take, drop, set, length-append, length-take, length-drop, take-append-drop}
use lib.Seq.{length-take-le, set_split, take-append-le, take-take, take-add, drop-drop, take_at, drop_at}
use borrow.Rule.Slice.PartMut.{put_mid}
use Rattle.wire.specs.Placed.{placed}
use Rattle.wire.proofs.PartsLaws.{rest_of, put_rest}

-- Nothing placed changes nothing.
pub placed_none : (s : List ℕ) (at : ℕ) → placed s at [] ≡ s
unfolding placed
placed_none s at = rw (add-zero, take-append-drop)

-- One element stored is one placed.
pub placed_one : (s : List ℕ) (at b : ℕ) → at < length s → set s at b ≡ placed s at (b ∷ [])
unfolding placed
placed_one s at b h = rw add-one (set_split s at b h)

module _ (s bytes : List ℕ) (at : ℕ) (room : at + length bytes ≤ length s) where
  front : length (take at s ++ bytes) ≡ at + length bytes
  front = simp (length-append, length-take) (omega arith)

  -- The length stays.
  pub placed_length : length (placed s at bytes) ≡ length s
  unfolding placed
  placed_length = simp (length-append, length-take, length-drop) (omega arith)

  -- Up to the end of what was placed,
  pub placed_take : take (at + length bytes) (placed s at bytes) ≡ take at s ++ bytes
  unfolding placed
  placed_take = rw (← append_assoc) (take_at (take at s ++ bytes) (drop (at + length bytes) s) (at + length bytes) front)

  -- and from its start on.
  pub placed_drop : drop at (placed s at bytes) ≡ bytes ++ drop (at + length bytes) s
  unfolding placed
  placed_drop = drop_at (take at s) (bytes ++ drop (at + length bytes) s) at (length-take-le at s (omega arith))

  -- What is before stays.
  pub placed_before : (n : ℕ) → n ≤ at → take n (placed s at bytes) ≡ take n s
  unfolding placed
  placed_before n h =
      rw (take-append-le n (take at s) (bytes ++ drop (at + length bytes) s) (simp length-take (omega arith)), take-take n at s)

  -- What is after stays.
  pub placed_after : (n : ℕ) → at + length bytes ≤ n → drop n (placed s at bytes) ≡ drop n s
  unfolding placed
  placed_after n h =
      let a = at + length bytes in
      let e : n ≡ a + (n - a) = omega arith in
      rw (e, ← drop-drop (n - a) a (placed s at bytes), ← append_assoc, drop_at (take at s ++ bytes) (drop a s) a front, drop-drop)

-- Two writes, one behind the other, are one write of both.
pub placed_on : (s x y : List ℕ) (at : ℕ) → at + length x ≤ length s → placed (placed s at x) (at + length x) y ≡ placed s at (x ++ y)
unfolding placed
placed_on s x y at h =
    let n : at + length (x ++ y) ≡ at + length x + length y = simp length-append (omega arith) in
    rw (placed_take s x at h, placed_after s x at h (at + length x + length y) (omega arith), n) (simp append_assoc)

-- The same of what two calls left, each known by an equation.
pub placed_next : (s x y first last : List ℕ) (at next : ℕ) → first ≡ placed s at x → next ≡ at + length x → next ≤ length s
    → last ≡ placed first next y → last ≡ placed s at (x ++ y)
placed_next s x y first last at next e n h f = f ∙ rw (e, n) (placed_on s x y at (omega arith))

-- Two writes, the second right before the first, are one write of both.
pub placed_under : (s x y : List ℕ) (at : ℕ) → at + length x + length y ≤ length s → placed (placed s (at + length x) y) at x ≡ placed s at (x ++ y)
unfolding placed
placed_under s x y at h =
    let n : at + length (x ++ y) ≡ at + length x + length y = simp length-append (omega arith) in
    rw (placed_before s y (at + length x) h at (omega arith), placed_drop s y (at + length x) h, n) (simp append_assoc)

-- A write that covers an earlier one.
pub placed_over : (s x y : List ℕ) (a b : ℕ) → a + length x ≤ length s → b ≤ a → a + length x ≤ b + length y → placed (placed s a x) b y ≡ placed s b y
unfolding placed
placed_over s x y a b h l m = rw (placed_before s x a h b l, placed_after s x a h (b + length y) m)

-- What stands somewhere, placed there.
pub placed_again : (s : List ℕ) (at n : ℕ) → at + n ≤ length s → placed s at (take n (drop at s)) ≡ s
unfolding placed
placed_again s at n h =
    let e : length (take n (drop at s)) ≡ n = length-take-le n (drop at s) (simp length-drop (omega arith)) in
    rw (e, ← drop-drop n at s, take-append-drop, take-append-drop)

-- `&mut s[a..]` that comes back with a write at `at` of it: a write of the whole.
pub placed_in_rest : (s last bytes : List ℕ) (a at : ℕ) → last ≡ placed (take (length s - a) (drop a s)) at bytes
    → put_mid a (length s - a) s last ≡ placed s (a + at) bytes
unfolding placed
placed_in_rest s last bytes a at e = rw (put_rest, e, rest_of, drop-drop, take-add, append_assoc, add_assoc)

-- The same of a write at its start.
pub placed_rest : (s last bytes : List ℕ) (a : ℕ) → last ≡ placed (take (length s - a) (drop a s)) 0 bytes
    → put_mid a (length s - a) s last ≡ placed s a bytes
placed_rest s last bytes a e = rw add-zero at (placed_in_rest s last bytes a 0 e)
