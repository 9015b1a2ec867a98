-- Parts of a slice that go to its end, and a choice for proofs by cases.
use mathlib.Core.Path.{◌≡◌, refl}
use mathlib.Core.Bool.{Bool, true, false}
use mathlib.Core.Logic.{◌⊎◌, inl, inr}
use mathlib.Core.List.{List, ◌++◌, append-nil}
use Prim.Native.Nat.{ℕ, ◌-◌, ◌≤◌, ◌<◌}
use native.Mathlib.Omega.{arith}
use lib.Dec.{ltb}
use lib.ListN.{length, take, drop, length-drop, drop_of_length-le}
use lib.Seq.{take_all}
use borrow.Author.Tests.{ltb-true, ltb-false}
use borrow.Rule.Slice.PartMut.{put_mid}

-- `&s[a..]` is what is left after `a` elements.
pub rest_of : (s : List ℕ) (a : ℕ) → take (length s - a) (drop a s) ≡ drop a s
rest_of s a = take_all (length s - a) (drop a s) (simp length-drop (omega arith))

-- `&mut s[a..]` that comes back as `last`: the first `a` elements, and then `last`.
pub put_rest : (s last : List ℕ) (a : ℕ) → put_mid a (length s - a) s last ≡ take a s ++ last
put_rest s last a = rw (drop_of_length-le (drop a s) {i = length s - a} (simp length-drop (omega arith)), append-nil)

-- One number is below another, or not.
pub below_or : (a b : ℕ) → (a < b) ⊎ (b ≤ a)
below_or a b = go (ltb a b) refl
  where
    go : (t : Bool) → ltb a b ≡ t → (a < b) ⊎ (b ≤ a)
    go true e = inl (ltb-true a b e)
    go false e = inr (ltb-false a b e)
