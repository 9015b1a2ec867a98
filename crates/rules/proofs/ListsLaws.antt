-- Laws of numbered lists.
use mathlib.Core.Path.{◌≡◌, refl, sym, ◌∙◌, ap}
use mathlib.Core.Logic.{◌⊎◌, inl, inr}
use mathlib.Core.List.{List, [], ◌∷◌, ◌++◌}
use mathlib.Core.Option.{Option, none, some}
use Prim.Native.Nat.{ℕ, zero, suc, ◌<◌, suc-le-suc}
use native.Mathlib.Nat.{not-suc-le-zero, le_of_suc-le-suc, zero-lt-suc}
use native.Mathlib.Omega.{arith}
use lib.ListN.{length, get_or, get_elem?, length-append, get_or-append}
use lib.Seq.{get_or-append_seam}
use Rattle.rules.specs.Lists.{At, ◌▷◌, In, NoneTwice}
use Rattle.rules.specs.Derivations.{with_some, chosen}

module _ {ℓ} {A : Type ℓ} where
  -- What an index in range reads does not depend on what one past the end would read.
  pub get_or_any : (l : List A) (i : ℕ) (d e : A) → i < length l → get_or l i d ≡ get_or l i e
  get_or_any [] i d e h = absurd (not-suc-le-zero h)
  get_or_any (x ∷ l) zero d e h = refl
  get_or_any (x ∷ l) (suc i) d e h = get_or_any l i d e (le_of_suc-le-suc h)

  -- A number has one element.
  pub at_one : {l : List A} {i : ℕ} {x y : A} → At l i x → At l i y → x ≡ y
  at_one {l} {i} {x} {y} a b = sym a.is ∙ get_or_any l i x y a.there ∙ b.is

  pub at_get_or : (l : List A) (i : ℕ) (d : A) → i < length l → At l i (get_or l i d)
  at_get_or l i d h = record { there = h; is = get_or_any l i (get_or l i d) d h }

  pub at_reads : {l : List A} {i : ℕ} {x : A} → At l i x → (d : A) → get_or l i d ≡ x
  at_reads {l} {i} {x} a d = get_or_any l i d x a.there ∙ a.is

  pub at_head : {l : List A} {x : A} → At (x ∷ l) 0 x
  at_head = record { there = zero-lt-suc _; is = refl }

  pub at_tail : {l : List A} {i : ℕ} {x y : A} → At l i x → At (y ∷ l) (suc i) x
  at_tail a = record { there = suc-le-suc a.there; is = a.is }

  -- The last of a list, and those before it.
  pub at_end : (l : List A) (x : A) → At (l ▷ x) (length l) x
  at_end l x = record { there = omega (arith, length-append l (x ∷ [])); is = get_or-append_seam l x [] x }

  pub at_before : (l : List A) (x : A) (i : ℕ) (y : A) → At (l ▷ x) i y → (i ≡ length l → ⊥) → At l i y
  at_before l x i y a n =
      let h : i < length l = omega (arith, a.there, length-append l (x ∷ [])) in
      record { there = h; is = sym (get_or-append l (x ∷ []) y i h) ∙ a.is }

  -- ---- elements that have the listed numbers
  pub some_at : (l : List A) (i : ℕ) (x : A) → get_elem? l i ≡ some x → At l i x
  some_at [] i x e = let z : ◌≡◌ {A = ℕ} 0 1 = cc in absurd (omega arith)
  some_at (y ∷ l) zero x e = record { there = zero-lt-suc _; is = cc }
  some_at (y ∷ l) (suc i) x e = at_tail (some_at l i x e)

  pub at_some : {l : List A} {i : ℕ} {x : A} → At l i x → get_elem? l i ≡ some x
  at_some {l} {i} {x} a = go l i a.there a.is
    where
      go : (l : List A) (i : ℕ) → i < length l → get_or l i x ≡ x → get_elem? l i ≡ some x
      go [] i h e = absurd (not-suc-le-zero h)
      go (y ∷ l) zero h e = ap some e
      go (y ∷ l) (suc i) h e = go l i (le_of_suc-le-suc h) e

  -- Whatever is chosen is listed.
  pub chosen_listed : (l : List A) (L : List ℕ) (j : ℕ) (x : A) → At (chosen l L) j x → (i : ℕ) × In L i × At l i x
  chosen_listed l [] j x a = absurd (not-suc-le-zero a.there)
  chosen_listed l (i ∷ L) j x a = go (get_elem? l i) refl j a (λ j b. chosen_listed l L j x b)
    where
      Later : Type ℓ
      Later = (j : ℕ) → At (chosen l L) j x → (i : ℕ) × In L i × At l i x

      go : (o : Option A) → get_elem? l i ≡ o → (j : ℕ) → At (with_some o (chosen l L)) j x → Later → (m : ℕ) × In (i ∷ L) m × At l m x
      go none e j b later = let r = later j b in (r.0, inr r.1, r.2)
      go (some y) e zero b later = (i, inl refl, some_at l i x (e ∙ ap some b.is))
      go (some y) e (suc j) b later =
          let r = later j (record { there = le_of_suc-le-suc b.there; is = b.is }) in
          (r.0, inr r.1, r.2)

  -- Whatever is listed is chosen.
  pub listed_chosen : (l : List A) (L : List ℕ) (i : ℕ) (x : A) → In L i → At l i x → (j : ℕ) × At (chosen l L) j x
  listed_chosen l [] i x m a = absurd m
  listed_chosen l (h ∷ L) i x (inl e) a = go (get_elem? l h) (rw e (at_some a))
    where
      go : (o : Option A) → o ≡ some x → (j : ℕ) × At (with_some o (chosen l L)) j x
      go none f = let z : ◌≡◌ {A = ℕ} 0 1 = cc in absurd (omega arith)
      go (some y) f = (0, record { there = zero-lt-suc _; is = cc })
  listed_chosen l (h ∷ L) i x (inr m) a = go (get_elem? l h) (listed_chosen l L i x m a)
    where
      go : (o : Option A) → (j : ℕ) × At (chosen l L) j x → (j : ℕ) × At (with_some o (chosen l L)) j x
      go none r = r
      go (some y) r = (suc r.0, at_tail r.1)

-- ---- being among
pub in_snoc : (l : List ℕ) (x y : ℕ) → In (l ▷ x) y → In l y ⊎ (x ≡ y)
in_snoc [] x y (inl e) = inr e
in_snoc [] x y (inr b) = absurd b
in_snoc (z ∷ l) x y (inl e) = inl (inl e)
in_snoc (z ∷ l) x y (inr h) = go (in_snoc l x y h)
  where
    go : In l y ⊎ (x ≡ y) → ((z ≡ y) ⊎ In l y) ⊎ (x ≡ y)
    go (inl a) = inl (inr a)
    go (inr e) = inr e

pub in_left : (l m : List ℕ) (x : ℕ) → In l x → In (l ++ m) x
in_left [] m x h = absurd h
in_left (y ∷ l) m x (inl e) = inl e
in_left (y ∷ l) m x (inr h) = inr (in_left l m x h)

pub in_right : (l m : List ℕ) (x : ℕ) → In m x → In (l ++ m) x
in_right [] m x h = h
in_right (y ∷ l) m x h = inr (in_right l m x h)

pub in_either : (l m : List ℕ) (x : ℕ) → In (l ++ m) x → In l x ⊎ In m x
in_either [] m x h = inr h
in_either (y ∷ l) m x (inl e) = inl (inl e)
in_either (y ∷ l) m x (inr h) = go (in_either l m x h)
  where
    go : In l x ⊎ In m x → In (y ∷ l) x ⊎ In m x
    go (inl a) = inl (inr a)
    go (inr b) = inr b

pub in_last : (l : List ℕ) (x : ℕ) → In (l ▷ x) x
in_last l x = in_right l (x ∷ []) x (inl refl)

pub twice_snoc : (l : List ℕ) (x : ℕ) → NoneTwice l → (In l x → ⊥) → NoneTwice (l ▷ x)
twice_snoc [] x h n = (λ b. b, tt)
twice_snoc (z ∷ l) x h n = (λ i. go (in_snoc l x z i), twice_snoc l x h.1 (λ i. n (inr i)))
  where
    go : In l z ⊎ (x ≡ z) → ⊥
    go (inl a) = h.0 a
    go (inr e) = n (inl (sym e))
