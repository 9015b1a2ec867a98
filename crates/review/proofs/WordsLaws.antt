-- Reading the digits of a word from the front, and the library's `==` of two words.
use mathlib.Core.Path.{◌≡◌, refl, sym, ◌∙◌, ap}
use mathlib.Core.Bool.{Bool, true, false, ◌&&◌}
use mathlib.Core.Logic.{◌⊎◌, inl, inr}
use mathlib.Core.List.{List, [], ◌∷◌}
use Prim.Native.Nat.{ℕ, suc, ◌+◌, ◌-◌, ◌*◌, ◌<◌, ◌≤◌}
use native.Mathlib.Omega.{arith}
use Rattle.std.proofs.Common.{add-one}
use lib.Dec.{ltb, eqb}
use lib.ListN.{length, get_or, drop}
use lib.Seq.{drop-cons, drop-length}
use borrow.Author.Tests.{lt-ltb, le-ltb}
use Rattle.wire.specs.Number.{most_number}
use Rattle.review.specs.Words.{digits_after, number_said, alike}
use Rattle.std.specs.Prelude.{Some, None}
use Rattle.std.specs.Cmp.Lexicographic.{pointwise}
use Rattle.rules.specs.Choice.{pick}

-- ---- the digits of a word, of which the first `i` said `v`
pub record Reading (s : List ℕ) (v i : ℕ) : Type 0 where
  pub small : v ≤ most_number
  pub within : i ≤ length s
  pub same : number_said s ≡ digits_after v (drop i s)

pub said_nothing : (s : List ℕ) → length s ≡ 0 → None ≡ number_said s
unfolding number_said
said_nothing [] e = refl
said_nothing (d ∷ s) e = absurd (omega arith)

pub reading_start : (s : List ℕ) → (length s ≡ 0 → ⊥) → Reading s 0 0
unfolding number_said
reading_start [] f = absurd (f refl)
reading_start (d ∷ s) f = record { small = omega arith; within = omega arith; same = refl }

pub reading_end : (s : List ℕ) (v i : ℕ) → Reading s v i → length s ≤ i → Some v ≡ number_said s
unfolding digits_after
reading_end s v i r h =
    let e : i ≡ length s = omega (arith, r.within) in
    sym (r.same ∙ ap (λ (j : ℕ). digits_after v (drop j s)) e ∙ ap (digits_after v) (drop-length s))

module _ (s : List ℕ) (v i : ℕ) (r : Reading s v i) (h : i < length s) (d : ℕ) (e : d ≡ get_or s i 0) where
  here : number_said s ≡ digits_after v (d ∷ drop (suc i) s)
  here = r.same ∙ ap (digits_after v) (drop-cons s i 0 h) ∙ ap (λ (x : ℕ). digits_after v (x ∷ drop (suc i) s)) (sym e)

  pub no_digit : (d < 48) ⊎ (57 < d) → None ≡ number_said s
  unfolding digits_after
  no_digit (inl l) = sym (here ∙ simp (lt-ltb d 48 l))
  no_digit (inr g) = dec (ltb d 48) refl
    where
      dec : (b : Bool) → ltb d 48 ≡ b → None ≡ number_said s
      dec true e = sym (here ∙ simp e)
      dec false e = sym (here ∙ simp (e, lt-ltb 57 d g))

  module _ (low : 48 ≤ d) (high : d ≤ 57) where
    pub too_large : most_number < 10 * v + (d - 48) → None ≡ number_said s
    unfolding digits_after
    too_large g = sym (here ∙ simp (le-ltb d 48 low, le-ltb 57 d high, lt-ltb most_number (10 * v + (d - 48)) g))

    pub reading_on : (w : ℕ) → w ≡ 10 * v + (d - 48) → w ≤ most_number → Reading s w (i + 1)
    unfolding digits_after
    reading_on w is g = record { small = g; within = omega arith; same = goes ∙ ap (λ (j : ℕ). digits_after w (drop j s)) (sym (add-one i)) }
      where
        goes : number_said s ≡ digits_after w (drop (suc i) s)
        goes = here ∙ simp (le-ltb d 48 low, le-ltb 57 d high, ← is, le-ltb most_number w g)

-- ---- what `==` says of two words
pub pointwise_alike : (s t : List ℕ) → pointwise eqb s t ≡ alike s t
unfolding alike
pointwise_alike [] [] = refl
pointwise_alike [] (b ∷ t) = refl
pointwise_alike (a ∷ s) [] = refl
pointwise_alike (a ∷ s) (b ∷ t) = go (eqb a b) (pointwise_alike s t)
  where
    go : (x : Bool) → pointwise eqb s t ≡ alike s t → (x && pointwise eqb s t) ≡ pick x (alike s t) false
    go true e = e
    go false e = refl
