-- The bytes of the specimen table with more spaces.
use mathlib.Core.Path.{◌≡◌, refl, sym, ◌∙◌, ap, subst}
use mathlib.Core.List.{List}
use Prim.Native.Nat.{ℕ, zero, suc, ◌+◌, ◌-◌, ◌<◌, ◌≤◌}
use native.Mathlib.Omega.{arith}
use lib.ListN.{get_or, drop}
use denote.Param.Members.{Mut, Called}
use Rattle.std.specs.Array.{IsFromFnResultFrom, IsFromFnResult}
use Rattle.std.specs.List.{range_with_len}
use Rattle.std.proofs.Math.ListN.{get_or-append, get_or-eq_default}
use Rattle.std.proofs.lemmas.List.{get_or-append_right}
use Rattle.std.proofs.lemmas.List.FromFn.{length-range_with_len, get_or-range_with_len}
use Rattle.demands.specs.Rows.{T}
use Rattle.specimen.specs.Tables.{T_with_spaces}

module _ (more at : ℕ) (h : 5 ≤ at) where
  -- A place behind the first five.
  from_five : at ≡ suc (suc (suc (suc (suc (at - 5)))))
  from_five = omega arith

  -- The key of a space that it has more.
  pub key_there : at < 5 + more → 26 + at ≡ get_or (T_with_spaces more) at 0
  key_there m =
      let n = length-range_with_len 31 more in
      omega (arith, ap (λ (i : ℕ). get_or (T_with_spaces more) i 0) from_five ∙ get_or-append (range_with_len 31 more) (drop 5 T) 0 (at - 5) (omega (arith, n)), get_or-range_with_len 31 more (at - 5) 0 (omega arith))

  -- Behind them, what follows in T.
  behind : 5 + more ≤ at → get_or (T_with_spaces more) at 0 ≡ get_or (drop 5 T) (at - 5 - more) 0
  behind m = ap (λ (i : ℕ). get_or (T_with_spaces more) i 0) from_five ∙ get_or-append_right (range_with_len 31 more) (drop 5 T) more (at - 5) 0 (length-range_with_len 31 more) (omega arith)

  pub byte_there : 5 + more ≤ at → get_or T (at - more) 0 ≡ get_or (T_with_spaces more) at 0
  byte_there m =
      let k : at - more ≡ suc (suc (suc (suc (suc (at - 5 - more))))) = omega arith in
      ap (λ (i : ℕ). get_or T i 0) k ∙ sym (behind m)

  pub ended : 59 + more ≤ at → 0 ≡ get_or (T_with_spaces more) at 0
  ended m = sym (behind (omega arith) ∙ get_or-eq_default (drop 5 T) 0 {n = at - 5 - more} (omega arith))

-- What a function that no call changes makes by place.
module _ {F B : Type 0} (g : Mut F (ℕ × Unit {0}) B) (f : F) (value : ℕ → B) (h : (i : ℕ) (y : B) (q : F) → Called g f (i, tt) y q → (y ≡ value i) × (q ≡ f)) where
  one : {i : ℕ} {p : F} (y : B) (q : F) → p ≡ f → Called g p (i, tt) y q → (y ≡ value i) × (q ≡ f)
  one {i = i} y q same called = h i y q (subst (λ (x : F). Called g x (i, tt) y q) same called)

  made_from : (ys : List B) (n i : ℕ) (p : F) → p ≡ f → IsFromFnResultFrom g p ys i n → (k j : ℕ) (d : B) → j ≡ i + k → k < n → get_or ys j d ≡ value j
  made_from ys zero i p same made k j d e l = absurd (omega arith)
  made_from ys (suc n) i p same (q, y, at, called, more) zero j d e l = subst (λ (m : ℕ). get_or ys m d ≡ value m) (omega arith) (at.1 d ∙ (one y q same called).0)
  made_from ys (suc n) i p same (q, y, at, called, more) (suc k) j d e l = made_from ys n (i + 1) q (one y q same called).1 more k j d (omega arith) (omega arith)

  pub made_by_place : (ys : List B) (n : ℕ) → IsFromFnResult g f ys n → (i : ℕ) (d : B) → i < n → get_or ys i d ≡ value i
  made_by_place ys n made i d = made_from ys n 0 f refl made.each i i d (omega arith)
