-- The promises leave no choice: marks that meet one of them are the same.
use mathlib.Core.Path.{◌≡◌, refl, sym, subst}
use mathlib.Core.Logic.{◌⊎◌, inl, inr}
use mathlib.Core.Bool.{Bool, true, false}
use mathlib.Core.List.{List}
use Prim.Native.Nat.{ℕ, zero, suc, ◌+◌, ◌<◌, ◌≤◌}
use native.Mathlib.Omega.{arith}
use native.Mathlib.Decide.{dec_lt}
use lib.ListN.{length, drop, get_or, drop_of_length-le}
use lib.Seq.{drop-cons}
use Rattle.rules.specs.Lists.{In}
use Rattle.rules.specs.Tables.{NameTable}
use Rattle.rules.specs.Ranges.{GoodNames}
use Rattle.rules.specs.Filling.{Filling}
use Rattle.marking.specs.Marks.{marked, Adds}
use Rattle.marking.specs.Needed.{Wanted, Needed}
use Rattle.marking.proofs.OrderLaws.{stands_at, from_on}
use Rattle.marking.proofs.NeededLaws.{not_passed}

same_mark : (a b : Bool) → (a ≡ true → b ≡ true) → (b ≡ true → a ≡ true) → a ≡ b
same_mark true b f g = sym (f refl)
same_mark false true f g = g refl
same_mark false false f g = refl

-- WHAT IS ADDED IS ONE.
pub added_is_one : (P : ℕ → Type 0) (before a b : List Bool) → Adds P before a → Adds P before b → (i : ℕ) → marked a i ≡ marked b i
added_is_one P before a b f g i = same_mark (marked a i) (marked b i) (λ h. over a b f g (f.only i h)) (λ h. over b a g f (g.only i h))
  where
    over : (a b : List Bool) → Adds P before a → Adds P before b → (marked before i ≡ true) ⊎ P i → marked b i ≡ true
    over a b f g (inl h) = g.kept i h
    over a b f g (inr w) = g.added i w

module _ (t : NameTable) (good : GoodNames t) (sheet L : List ℕ) (f : Filling t sheet L) (before : List Bool) where
  -- A listed binding stands behind those that its target goes through.
  stands_behind : (m : List Bool) (l j n : ℕ) → In L l → Wanted t m l j → n < length L → get_or L n 0 ≡ j → In (drop (suc n) L) l
  stands_behind m l j n h w there e = go (stands_at L l h)
    where
      go : (i : ℕ) × (i < length L) × (get_or L i 0 ≡ l) → In (drop (suc n) L) l
      go (i, b, q) = order (dec_lt n i)
        where
          order : Dec (n < i) → In (drop (suc n) L) l
          order (yes less) = subst (In (drop (suc n) L)) q (from_on L (suc n) i less b)
          order (no not) =
              let back : In (drop i L) j = subst (In (drop i L)) e (from_on L i n (omega (arith, not)) there) in
              absurd (not_passed t good sheet L f i b m j (subst (λ (x : ℕ). Wanted t m x j) (sym q) w) back)

  module _ (a b : List Bool) (p : Needed t L before a) (q : Needed t L before b) where
    -- The `k` last of the list: what is marked of them in `a` is marked in `b`.
    last_over : (k n : ℕ) → length L ≤ n + k → (m : ℕ) → In (drop n L) m → marked a m ≡ true → marked b m ≡ true
    last_over zero n h m i e = absurd (subst (λ (l : List ℕ). In l m) (drop_of_length-le L {i = n} (omega arith)) i)
    last_over (suc k) n h m i e = go (dec_lt n (length L)) (λ x. last_over k (suc n) (omega arith) x)
      where
        Later : Type 0
        Later = (x : ℕ) → In (drop (suc n) L) x → marked a x ≡ true → marked b x ≡ true

        wanted : n < length L → get_or L n 0 ≡ m → Later → (marked before m ≡ true) ⊎ ((l : ℕ) × In L l × Wanted t a l m) → marked b m ≡ true
        wanted there d later (inl w) = q.kept m w
        wanted there d later (inr (l, x, w)) = q.closed l w.binding x (later l (stands_behind a l m n x w there d) w.wanting) w.at m w.through

        here : n < length L → Later → (get_or L n 0 ≡ m) ⊎ In (drop (suc n) L) m → marked b m ≡ true
        here there later (inl d) = wanted there d later (p.why m e)
        here there later (inr x) = later m x e

        go : Dec (n < length L) → Later → marked b m ≡ true
        go (yes there) later = here there later (subst (λ (l : List ℕ). In l m) (drop-cons L n 0 there) i)
        go (no past) later = absurd (subst (λ (l : List ℕ). In l m) (drop_of_length-le L {i = n} (omega (arith, past))) i)

    needed_over : (j : ℕ) → marked a j ≡ true → marked b j ≡ true
    needed_over j e = go (p.why j e)
      where
        go : (marked before j ≡ true) ⊎ ((m : ℕ) × In L m × Wanted t a m j) → marked b j ≡ true
        go (inl w) = q.kept j w
        go (inr (m, x, w)) = q.closed m w.binding x (last_over (length L) 0 (omega arith) m x w.wanting) w.at j w.through

  -- WHAT IS NEEDED IS ONE.
  pub needed_is_one : (a b : List Bool) → Needed t L before a → Needed t L before b → (i : ℕ) → marked a i ≡ marked b i
  needed_is_one a b p q i = same_mark (marked a i) (marked b i) (needed_over a b p q i) (needed_over b a q p i)
