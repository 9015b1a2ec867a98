-- Going through records that become a list in order: the first of them became the first of the list.
use mathlib.Core.Path.{◌≡◌, refl, sym, ◌∙◌, ap, subst}
use mathlib.Core.Logic.{◌⊎◌, inl, inr}
use mathlib.Core.List.{List, [], ◌∷◌}
use Prim.Native.Nat.{ℕ, suc, ◌+◌, ◌<◌, ◌≤◌}
use native.Mathlib.Numerals.{add-one}
use native.Mathlib.Omega.{arith}
use lib.ListN.{length, drop, get_or, length-drop, drop_of_length-le}
use lib.Seq.{drop-cons}
use Rattle.rules.specs.Lists.{At}
use Rattle.rules.specs.Translation.{InOrder, done, kept, omitted}
use Rattle.table.proofs.FindingLaws.{at_below}
use Rattle.translation.specs.Becoming.{Becomes}

-- Of the records `l`, which become `m`, the first `i` are passed, and they became the first `n`.
pub record Passed {A B : Type 0} (T : A → B → Type 0) (l : List A) (m : List B) (i n : ℕ) : Type 0 where
  pub most : i ≤ length l
  pub few : n ≤ length m
  pub fewer : n ≤ i
  pub rest : InOrder T (drop i l) (drop n m)

module _ {A B : Type 0} (T : A → B → Type 0) where
  -- What becomes of the record `x`, and of those behind it.
  abbrev First : A → List A → List B → Type 0
  First x l m = ((y : B) × (k : List B) × T x y × (m ≡ y ∷ k) × InOrder T l k) ⊎ (((y : B) → T x y → ⊥) × InOrder T l m)

  order_first : (x : A) (l : List A) (m : List B) → InOrder T (x ∷ l) m → First x l m
  order_first x l m (kept {y = y} {m = k} h o) = inl (y, k, h, refl, o)
  order_first x l m (omitted f o) = inr (f, o)

  -- No records become nothing.
  order_none : (l : List A) (m : List B) → l ≡ [] → InOrder T l m → m ≡ []
  order_none l m e done = refl
  order_none l m e (kept h o) = let z : ◌≡◌ {A = ℕ} 0 1 = cc in absurd (omega arith)
  order_none l m e (omitted f o) = let z : ◌≡◌ {A = ℕ} 0 1 = cc in absurd (omega arith)

  -- Records become no more than they are.
  pub order_short : {l : List A} {m : List B} → InOrder T l m → length m ≤ length l
  order_short done = omega arith
  order_short (kept h o) = omega (arith, order_short o)
  order_short (omitted f o) = omega (arith, order_short o)

module _ {A B : Type 0} (T : A → B → Type 0) (l : List A) (m : List B) where
  -- At the start none is passed,
  pub passed_start : InOrder T l m → Passed T l m 0 0
  passed_start o = record { most = omega arith; few = omega arith; fewer = omega arith; rest = o }

  -- and at the end all are.
  pub passed_end : (i n : ℕ) → Passed T l m i n → length l ≤ i → n ≡ length m
  passed_end i n p h =
      let e : drop n m ≡ [] = order_none T (drop i l) (drop n m) (drop_of_length-le l {i = i} h) p.rest in
      omega (arith, ap length e, length-drop n m, p.few)

  module _ (single : (x : A) (y z : B) → T x y → T x z → y ≡ z) (i n : ℕ) (p : Passed T l m i n) (h : i < length l) where
    -- From record number `i` on.
    from_here : (x : A) → At l i x → InOrder T (x ∷ drop (suc i) l) (drop n m)
    from_here x a = subst (λ (k : List A). InOrder T k (drop n m)) (drop-cons l i x h ∙ ap (λ (z : A). z ∷ drop (suc i) l) a.is) p.rest

    -- It becomes one, which is the next of the list,
    pub next_kept : (y : B) → Becomes T l i y → At m n y × Passed T l m (i + 1) (n + 1)
    next_kept y b = go (order_first T b.from (drop (suc i) l) (drop n m) (from_here b.from b.at))
      where
        go : First T b.from (drop (suc i) l) (drop n m) → At m n y × Passed T l m (i + 1) (n + 1)
        go (inl (z, k, w, e, o)) =
            let q : z ≡ y = single b.from z y w b.keys in
            let g : n < length m = omega (arith, ap length e, length-drop n m) in
            let d : get_or m n y ∷ drop (suc n) m ≡ z ∷ k = sym (drop-cons m n y g) ∙ e in
            let u : get_or m n y ≡ z = cc d in
            let v : drop (suc n) m ≡ k = cc d in
            (record { there = g; is = u ∙ q }, record { most = omega arith; few = omega arith; fewer = omega (arith, p.fewer); rest = rw (add-one i, add-one n, v) o })
        go (inr (f, o)) = absurd (f y b.keys)

    -- or nothing, and the list goes on as it is.
    pub next_omitted : ((y : B) → Becomes T l i y → ⊥) → Passed T l m (i + 1) n
    next_omitted f = go (at_below l i h)
      where
        after : (x : A) → At l i x → First T x (drop (suc i) l) (drop n m) → Passed T l m (i + 1) n
        after x a (inl (z, k, w, e, o)) = absurd (f z (record { from = x; at = a; keys = w }))
        after x a (inr (w, o)) = record { most = omega arith; few = p.few; fewer = omega (arith, p.fewer); rest = rw add-one o }

        go : (x : A) × At l i x → Passed T l m (i + 1) n
        go (x, a) = after x a (order_first T x (drop (suc i) l) (drop n m) (from_here x a))
