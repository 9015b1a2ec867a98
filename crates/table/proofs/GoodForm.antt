-- The rows that fit are those of the good tables.
use mathlib.Core.Path.{◌≡◌, refl, sym, ◌∙◌, ap, subst}
use mathlib.Core.Bool.{Bool, true, false, ◌&&◌}
use mathlib.Core.List.{List, [], ◌∷◌}
use mathlib.Core.Logic.{◌⊎◌, inl, inr, ◌↔◌}
use Prim.Native.Nat.{ℕ, zero, suc, min, ◌<◌, ◌≤◌}
use native.Mathlib.Nat.{le_of_suc-le-suc, not-suc-le-zero}
use native.Mathlib.Omega.{arith}
use native.Mathlib.Decide.{ℕ_discrete}
use lib.Dec.{eqb}
use lib.ListN.{length, take, length-take}
use lib.Seq.{get_or-take}
use borrow.Author.Tests.{eqb-true, eq-eqb}
use Rattle.rules.specs.Choice.{pick}
use Rattle.rules.specs.Lists.{At}
use Rattle.rules.specs.Ranges.{GoodKey, GoodBinding, GoodAccess, GoodDelegation, Good}
use Rattle.rules.specs.Tables.{Binding, Table}
use Rattle.rules.specs.declared.Key.{Key}
use Rattle.rules.specs.declared.Space.{Space}
use Rattle.rules.proofs.ListsLaws.{at_head, at_tail}
use Rattle.wire.proofs.PartsLaws.{below_or}
use Rattle.records.specs.Bindings.{is_bound}
use Rattle.records.specs.Rows.{is_among}
use Rattle.records.proofs.ManyForm.{AllFit, fit_at, at_fit}
use Rattle.table.specs.ReadTable.{numbers}
use Rattle.table.proofs.TableForm.{TableFits}

-- ---- the first so many
module _ {A : Type 0} (l : List A) where
  pub at_take : (n i : ℕ) (x : A) → At l i x → i < n → At (take n l) i x
  at_take n i x a h = record { there = rw (length-take n l) (omega (arith, a.there)); is = get_or-take n l i x h ∙ a.is }

  pub take_at : (n i : ℕ) (x : A) → At (take n l) i x → At l i x × (i < n)
  take_at n i x a =
      let h : i < min n (length l) = rw (length-take n l) at a.there in
      let g : i < n = omega arith in
      (record { there = omega arith; is = sym (get_or-take n l i x g) ∙ a.is }, g)

-- ---- rows in which no record is the same as an earlier one
module _ {A : Type 0} (Fine : A → Type 0) (test : List A → A → Bool) (Same : A → A → Type 0)
    (tested : (l : List A) (i : ℕ) (x y : A) → At l i x → Same x y → test l y ≡ true)
    (found : (l : List A) (y : A) → test l y ≡ true → (i : ℕ) × (x : A) × At l i x × Same x y)
  where
    abbrev Fits : List A → A → Type 0
    Fits earlier x = Fine x × (test earlier x ≡ false)

    pub fits_fine : (l : List A) → AllFit Fits [] l → (i : ℕ) (x : A) → At l i x → Fine x
    fits_fine l f i x a = (fit_at Fits [] l i x f a).0

    pub fits_apart : (l : List A) → AllFit Fits [] l → (i j : ℕ) (x y : A) → At l i x → At l j y → i < j → Same x y → ⊥
    fits_apart l f i j x y a b h s =
        let p : test (take j l) y ≡ false = (fit_at Fits [] l j y f b).1 in
        let q : test (take j l) y ≡ true = tested (take j l) i x y (at_take l j i x a h) s in
        let z : ◌≡◌ {A = Bool} true false = sym q ∙ p in
        apart z
      where
        apart : ◌≡◌ {A = Bool} true false → ⊥
        apart z = let e : ◌≡◌ {A = ℕ} 0 1 = cc in absurd (omega arith)

    pub apart_fits : (l : List A) → ((i : ℕ) (x : A) → At l i x → Fine x) → ((i j : ℕ) (x y : A) → At l i x → At l j y → i < j → Same x y → ⊥) → AllFit Fits [] l
    apart_fits l f g = at_fit Fits [] l (λ j y b. (f j y b, none j y b (test (take j l) y) refl))
      where
        none : (j : ℕ) (y : A) → At l j y → (t : Bool) → test (take j l) y ≡ t → t ≡ false
        none j y b false e = refl
        none j y b true e = let w = found (take j l) y e in let p = take_at l j w.0 w.1 w.2 in absurd (g w.0 j w.1 y p.0 b p.1 w.3)

-- ---- keys of spaces
abbrev SameKey : Key → Key → Type 0
SameKey k m = k.0 ≡ m.0

number_among : (l : List Key) (i : ℕ) (k m : Key) → At l i k → SameKey k m → is_among (numbers l) m.0 ≡ true
unfolding is_among
number_among [] i k m a e = absurd (not-suc-le-zero a.there)
number_among (x ∷ l) zero k m a e = rw (eq-eqb x.0 m.0 (ap (λ (y : Key). y.0) a.is ∙ e)) refl
number_among (x ∷ l) (suc i) k m a e = go (eqb x.0 m.0) (number_among l i k m (record { there = le_of_suc-le-suc a.there; is = a.is }) e)
  where
    go : (b : Bool) → is_among (numbers l) m.0 ≡ true → pick b true (is_among (numbers l) m.0) ≡ true
    go true h = refl
    go false h = h

among_number : (l : List Key) (m : Key) → is_among (numbers l) m.0 ≡ true → (i : ℕ) × (k : Key) × At l i k × SameKey k m
unfolding is_among
among_number [] m e = let z : ◌≡◌ {A = ℕ} 0 1 = cc in absurd (omega arith)
among_number (x ∷ l) m e = go (eqb x.0 m.0) refl e (among_number l m)
  where
    go : (b : Bool) → eqb x.0 m.0 ≡ b → pick b true (is_among (numbers l) m.0) ≡ true → (is_among (numbers l) m.0 ≡ true → (i : ℕ) × (k : Key) × At l i k × SameKey k m)
        → (i : ℕ) × (k : Key) × At (x ∷ l) i k × SameKey k m
    go true q h more = (0, x, at_head, eqb-true x.0 m.0 q)
    go false q h more = let w = more h in (suc w.0, w.1, at_tail w.2, w.3)

-- ---- names that are bound
abbrev SameName : Binding → Binding → Type 0
SameName x y = (x.space.0 ≡ y.space.0) × (x.base ≡ y.base)

both_true : (a b : Bool) → (a && b) ≡ true → (a ≡ true) × (b ≡ true)
both_true true true e = (refl, refl)
both_true true false e = let z : ◌≡◌ {A = ℕ} 0 1 = cc in absurd (omega arith)
both_true false b e = let z : ◌≡◌ {A = ℕ} 0 1 = cc in absurd (omega arith)

name_bound : (l : List Binding) (i : ℕ) (x y : Binding) → At l i x → SameName x y → is_bound l y.space y.base ≡ true
unfolding is_bound
name_bound [] i x y a e = absurd (not-suc-le-zero a.there)
name_bound (z ∷ l) zero x y a e =
    rw (eq-eqb z.space.0 y.space.0 (ap (λ (w : Binding). w.space.0) a.is ∙ e.0), eq-eqb z.base y.base (ap (λ (w : Binding). w.base) a.is ∙ e.1)) refl
name_bound (z ∷ l) (suc i) x y a e = go (eqb z.space.0 y.space.0 && eqb z.base y.base) (name_bound l i x y (record { there = le_of_suc-le-suc a.there; is = a.is }) e)
  where
    go : (b : Bool) → is_bound l y.space y.base ≡ true → pick b true (is_bound l y.space y.base) ≡ true
    go true h = refl
    go false h = h

bound_name : (l : List Binding) (y : Binding) → is_bound l y.space y.base ≡ true → (i : ℕ) × (x : Binding) × At l i x × SameName x y
unfolding is_bound
bound_name [] y e = let z : ◌≡◌ {A = ℕ} 0 1 = cc in absurd (omega arith)
bound_name (x ∷ l) y e = go (eqb x.space.0 y.space.0 && eqb x.base y.base) refl e (bound_name l y)
  where
    go : (b : Bool) → (eqb x.space.0 y.space.0 && eqb x.base y.base) ≡ b → pick b true (is_bound l y.space y.base) ≡ true
        → (is_bound l y.space y.base ≡ true → (i : ℕ) × (z : Binding) × At l i z × SameName z y) → (i : ℕ) × (z : Binding) × At (x ∷ l) i z × SameName z y
    go true q h more =
        let w = both_true (eqb x.space.0 y.space.0) (eqb x.base y.base) q in
        (0, x, at_head, (eqb-true x.space.0 y.space.0 w.0, eqb-true x.base y.base w.1))
    go false q h more = let w = more h in (suc w.0, w.1, at_tail w.2, w.3)

-- ---- one of two orders, or the same
order : (i j : ℕ) → (i < j → ⊥) → (j < i → ⊥) → i ≡ j
order i j f g = go (ℕ_discrete i j) (below_or i j)
  where
    go : Dec (i ≡ j) → (i < j) ⊎ (j ≤ i) → i ≡ j
    go (yes e) _ = e
    go (no n) (inl h) = absurd (f h)
    go (no n) (inr h) = absurd (g (omega arith))

-- ---- a good table is one whose rows fit
pub same_row : {A : Type 0} (Fine : A → Type 0) (l : List A) → AllFit (λ earlier. Fine) [] l ↔ ((i : ℕ) (x : A) → At l i x → Fine x)
same_row Fine l = (λ f i x a. fit_at (λ earlier. Fine) [] l i x f a, λ f. at_fit (λ earlier. Fine) [] l f)

abbrev is_key : List Key → Key → Bool
is_key l k = is_among (numbers l) k.0

abbrev is_name : List Binding → Binding → Bool
is_name l x = is_bound l x.space x.base

module _ (t : Table) where
  pub fits_good : TableFits t → Good t
  fits_good f =
      let n = length t.names.spaces in
      let k = fits_apart GoodKey is_key SameKey number_among among_number t.names.spaces f.0.1 in
      let b = fits_apart (GoodBinding n) is_name SameName name_bound bound_name t.names.bindings f.1.0.1 in
      record {
        names = record {
          keys = λ S m s. fits_fine GoodKey is_key SameKey number_among among_number t.names.spaces f.0.1 S.0 m s.at;
          keys_apart = λ S T m x y. ap (λ (i : ℕ). record { 0 = i }) (order S.0 T.0 (λ h. k S.0 T.0 m m x.at y.at h refl) (λ h. k T.0 S.0 m m y.at x.at h refl));
          bindings = fits_fine (GoodBinding n) is_name SameName name_bound bound_name t.names.bindings f.1.0.1;
          bound_once = λ i j x y c d e g.
              order i j (λ h. b i j x y c d h (ap (λ (S : Space). S.0) e, g)) (λ h. b j i y x d c h (ap (λ (S : Space). S.0) (sym e), sym g));
        };
        accesses = (same_row (GoodAccess n) t.accesses).0 f.1.1.0.1;
        delegations = (same_row (GoodDelegation n) t.delegations).0 f.1.1.1.1;
        few_spaces = f.0.0;
        few_bindings = f.1.0.0;
        few_accesses = f.1.1.0.0;
        few_delegations = f.1.1.1.0;
      }

  pub good_fits : Good t → TableFits t
  good_fits g = (
    (
      g.few_spaces,
      apart_fits GoodKey is_key SameKey number_among among_number t.names.spaces (λ i k a. g.names.keys (record { 0 = i }) k (record { at = a }))
          (λ i j k m a b h e. let s : k ≡ m = ap (λ (v : ℕ). record { 0 = v }) e in
          let q : ◌≡◌ {A = Space} (record { 0 = i }) (record { 0 = j }) = g.names.keys_apart (record { 0 = i }) (record { 0 = j }) m (record { at = subst (λ (x : Key). At t.names.spaces i x) s a }) (record { at = b }) in
          absurd (omega (arith, ap (λ (S : Space). S.0) q, h))),
    ),
    (
      (
        g.few_bindings,
        apart_fits (GoodBinding (length t.names.spaces)) is_name SameName name_bound bound_name t.names.bindings g.names.bindings
            (λ i j x y a b h e. absurd (omega (arith, g.names.bound_once i j x y a b (ap (λ (v : ℕ). record { 0 = v }) e.0) e.1, h))),
      ),
      (
        (g.few_accesses, (same_row (GoodAccess (length t.names.spaces)) t.accesses).1 g.accesses),
        (g.few_delegations, (same_row (GoodDelegation (length t.names.spaces)) t.delegations).1 g.delegations),
      ),
    ),
  )
