-- So many different numbers below a bound are at most as many as the bound.
use mathlib.Core.Path.{◌≡◌, refl, sym, subst}
use mathlib.Core.Logic.{◌⊎◌, inl, inr}
use mathlib.Core.Bool.{Bool, true, false}
use mathlib.Core.List.{List, [], ◌∷◌}
use Prim.Native.Nat.{ℕ, zero, suc, ◌<◌, ◌≤◌}
use native.Mathlib.Omega.{arith}
use lib.Dec.{T, eqb, eqb→eq, eqb_refl}
use lib.ListN.{length}
use Rattle.rules.specs.Lists.{In, NoneTwice}

-- ---- the list without its first `n`
take_out : (n : ℕ) (l : List ℕ) → In l n → (m : List ℕ) × (length l ≡ suc (length m)) × ((x : ℕ) → In m x → In l x) × (NoneTwice l → NoneTwice m × (In m n → ⊥))
take_out n [] h = absurd h
take_out n (y ∷ l) (inl e) = (l, refl, λ x h. inr h, λ f. (f.1, λ h. f.0 (subst (In l) (sym e) h)))
take_out n (y ∷ l) (inr h) =
    let w = take_out n l h in
    (y ∷ w.0, omega (arith, w.1), λ x. back w.0 w.2 x, λ f. ((λ g. f.0 (w.2 y g), (w.3 f.1).0), away w.0 (w.3 f.1).1 f.0))
  where
    back : (m : List ℕ) → ((x : ℕ) → In m x → In l x) → (x : ℕ) → (y ≡ x) ⊎ In m x → (y ≡ x) ⊎ In l x
    back m f x (inl e) = inl e
    back m f x (inr g) = inr (f x g)

    away : (m : List ℕ) → (In m n → ⊥) → (In l y → ⊥) → (y ≡ n) ⊎ In m n → ⊥
    away m f g (inl e) = g (subst (In l) (sym e) h)
    away m f g (inr k) = f k

-- ---- whether a number is among them
among : (n : ℕ) (l : List ℕ) → In l n ⊎ (In l n → ⊥)
among n [] = inr (λ h. h)
among n (y ∷ l) = go (eqb y n) refl (among n l)
  where
    go : (b : Bool) → eqb y n ≡ b → In l n ⊎ (In l n → ⊥) → In (y ∷ l) n ⊎ (In (y ∷ l) n → ⊥)
    go true e r = inl (inl (eqb→eq y n (subst T (sym e) tt)))
    go false e (inl h) = inl (inr h)
    go false e (inr f) = inr (λ h. not_here h)
      where
        not_here : (y ≡ n) ⊎ In l n → ⊥
        not_here (inl p) = subst T e (subst (λ (z : ℕ). T (eqb y z)) p (eqb_refl y))
        not_here (inr h) = f h

below : (n : ℕ) (l : List ℕ) → ((x : ℕ) → In l x → x < suc n) → (In l n → ⊥) → (x : ℕ) → In l x → x < n
below n l small away x h = go (eqb x n) refl
  where
    go : (b : Bool) → eqb x n ≡ b → x < n
    go true e = absurd (away (subst (In l) (eqb→eq x n (subst T (sym e) tt)) h))
    go false e = let f : x ≡ n → ⊥ = λ p. subst T e (subst (λ (z : ℕ). T (eqb x z)) p (eqb_refl x)) in omega (arith, small x h, f)

-- DIFFERENT NUMBERS BELOW `n` are at most `n`.
pub few_below : (n : ℕ) (l : List ℕ) → NoneTwice l → ((x : ℕ) → In l x → x < n) → length l ≤ n
few_below zero [] t small = omega arith
few_below zero (y ∷ l) t small = absurd (omega (arith, small y (inl refl)))
few_below (suc n) l t small = go (among n l) (λ m u f. few_below n m u f)
  where
    go : In l n ⊎ (In l n → ⊥) → ((m : List ℕ) → NoneTwice m → ((x : ℕ) → In m x → x < n) → length m ≤ n) → length l ≤ suc n
    go (inl h) fewer =
        let w = take_out n l h in
        omega (arith, w.1, fewer w.0 (w.3 t).0 (below n w.0 (λ x k. small x (w.2 x k)) (w.3 t).1))
    go (inr f) fewer = omega (arith, fewer l t (below n l small f))
