-- An account of depths that is sound and closed has the greatest; the rounds compute it; verdicts are one.
use mathlib.Core.Path.{◌≡◌, refl, sym, ◌∙◌, ap, subst}
use mathlib.Core.Logic.{◌⊎◌, inl, inr}
use mathlib.Core.Bool.{Bool, true, false, ◌&&◌, false≢true}
use mathlib.Core.List.{List, [], ◌∷◌, ◌++◌, map}
use Prim.Native.Nat.{ℕ, zero, suc, ◌<◌, ◌≤◌, max, zero-le, suc-le-suc}
use native.Mathlib.Nat.{le_refl, le_trans, le_antisymm, not-suc-le-zero, le_of_suc-le-suc}
use native.Mathlib.Omega.{arith}
use native.Mathlib.Decide.{dec_lt}
use borrow.Author.Tests.{eqb-true, eq-eqb}
use lib.Dec.{eqb}
use lib.ListN.{length, length-append}
use Rattle.rules.specs.Choice.{pick}
use Rattle.rules.specs.Lists.{At, ◌▷◌}
use Rattle.rules.specs.Depths.{top, Step, step_code}
use Rattle.rules.specs.Tables.{Asked}
use Rattle.rules.specs.Access.{Setting, Granted, Chain, first, next}
use Rattle.rules.specs.KeyTables.{KeyAccess, KeyDelegation, KeyTable, key_setting}
use Rattle.rules.specs.Verdicts.{Verdict, granted, Has, greatest, nothing}
use Rattle.rules.specs.Greatest.{Given, best, matches, by_access, by_delegation, reached, greatest_code, verdict_of}
use Rattle.rules.specs.declared.Key.{Key}
use Rattle.rules.proofs.ListsLaws.{at_head, at_tail}
use Rattle.rules.proofs.DepthsLaws.{Fits, fits, step_more, code_of_step, step_of_code, code_more}
use Rattle.rules.proofs.AccessLaws.{chain→access, access→chain, chain_short}

-- ---- an account of the depths that keys have
abbrev pub DepthAccount : Type 1
DepthAccount = Key → ℕ → Type 0

-- It tells nothing but what is granted.
pub record SoundDepths (Y : Setting) (D : DepthAccount) : Type 0 where
  pub sound : (k : Key) (d : ℕ) → D k d → Granted Y k d

-- Of the keys that it watches, every writer's among them, it tells as much as each record gives, or more.
pub record ClosedDepths (Y : Setting) (Watched : Key → Type 0) (D : DepthAccount) : Type 0 where
  pub writers : (j d : ℕ) (k : Key) (n : Y.Name) → Y.Wrote j k n d → Watched k
  pub roots : (i d : ℕ) (k : Key) (n : Y.Name) → Y.Root i n d → Y.Means n k → Watched k → (r : ℕ) × D k r × (d ≤ r)
  pub steps : (j a d r : ℕ) (k k' : Key) (n : Y.Name) → D k a → Y.Wrote j k n d → Y.Means n k' → Watched k' → Step a d r → (r' : ℕ) × D k' r' × (r ≤ r')

module _ (Y : Setting) (Watched : Key → Type 0) (D : DepthAccount) (closed : ClosedDepths Y Watched D) where
  closed_chain : {i d : ℕ} {c : List ℕ} {n : Y.Name} → Chain Y i c n d → (k : Key) → Y.Means n k → Watched k → (r : ℕ) × D k r × (d ≤ r)
  closed_chain (first {i = i} {d = d} {n = n} x) k m w = closed.roots i d k n x m w
  closed_chain (next {j = j} {a = a} {d = d} {r = r} {k = h} {n = n} {n' = n'} c m x s) k m' w =
      let b = closed_chain c h m (closed.writers j d h n' x) in
      let u = step_more a b.0 d r b.2 s in
      let g = closed.steps j b.0 d u.0 h k n' b.1 x m' w u.1 in
      (g.0, g.1, le_trans u.2 g.2)

  -- THE ACCOUNT HAS THE GREATEST DEPTH of each key that it watches.
  pub account_greatest : (fit : Fits Y.Above) (k : Key) (d : ℕ) → Watched k → Granted Y k d → (r : ℕ) × D k r × (d ≤ r)
  account_greatest fit k d w g =
      let c = access→chain Y fit g.access in
      let b = closed_chain c.3 k g.means w in
      (b.0, b.1, le_trans c.4 b.2)

-- ---- a key has one verdict
pub has_one : (Y : Setting) (k : Key) {v w : Verdict} → Has Y k v → Has Y k w → v ≡ w
has_one Y k (greatest {d = d} g most) (greatest {d = e} h top') = ap granted (le_antisymm (top' d g) (most e h))
has_one Y k (greatest {d = d} g most) (nothing n) = absurd (n d g)
has_one Y k (nothing n) (greatest {d = d} g most) = absurd (n d g)
has_one Y k (nothing n) (nothing m) = refl

-- ---- the greatest of what is given
abbrev All : (Given → Type 0) → List Given → Type 0
All P [] = Unit {0}
All P (g ∷ l) = P g × All P l

all_append : (P : Given → Type 0) (l m : List Given) → All P l → All P m → All P (l ++ m)
all_append P [] m a b = b
all_append P (g ∷ l) m a b = (a.0, all_append P l m a.1 b)

all_map : {A : Type 0} (P : Given → Type 0) (f : A → Given) (l : List A) → ((i : ℕ) (x : A) → At l i x → P (f x)) → All P (map f l)
all_map P f [] h = tt
all_map P f (x ∷ l) h = (h 0 x at_head, all_map P f l (λ i y a. h (suc i) y (at_tail a)))

max_cases : (a b : ℕ) → (max a b ≡ a) ⊎ (max a b ≡ b)
max_cases a b = go (dec_lt a b)
  where
    go : Dec (a < b) → (max a b ≡ a) ⊎ (max a b ≡ b)
    go (yes h) = inr (omega arith)
    go (no h) = inl (omega arith)

picked : (b : Bool) (x r : ℕ) → pick b x 0 ≡ suc r → (b ≡ true) × (x ≡ suc r)
picked true x r e = (refl, e)
picked false x r e = absurd (omega arith)

best_left : (l m : List Given) (k : Key) → best l k ≤ best (l ++ m) k
best_left [] m k = zero-le
best_left (g ∷ l) m k = omega (arith, best_left l m k)

best_right : (l m : List Given) (k : Key) → best m k ≤ best (l ++ m) k
best_right [] m k = le_refl _
best_right (g ∷ l) m k = omega (arith, best_right l m k)

best_map : {A : Type 0} (f : A → Given) (l : List A) (i : ℕ) (x : A) → At l i x → (f x).code ≤ best (map f l) (f x).key
best_map f [] i x a = absurd (not-suc-le-zero a.there)
best_map f (y ∷ l) zero x a = rw (ap f a.is, eq-eqb (f x).key.0 (f x).key.0 refl) (omega arith)
best_map f (y ∷ l) (suc i) x a = omega (arith, best_map f l i x (record { there = le_of_suc-le-suc a.there; is = a.is }))

three : (a b c : Bool) → a && (b && c) ≡ true → (a ≡ true) × (b ≡ true) × (c ≡ true)
three true true c e = (refl, refl, e)
three true false c e = absurd (false≢true e)
three false b c e = absurd (false≢true e)

three_pass : {a b c : Bool} → a ≡ true → b ≡ true → c ≡ true → a && (b && c) ≡ true
three_pass p q s = rw (p, q) s

module _ (K : KeyTable) (q : Asked Key) where
  abbrev Y : Setting
  Y = key_setting K q

  match_access : (x : KeyAccess) → matches K q x.owner x.object x.right ≡ true
      → x ≡ record { owner = q.owner; object = q.object; right = q.right; subject = x.subject; depth = x.depth }
  match_access x e =
      let w = three (eqb x.owner.0 q.owner.0) (eqb x.object q.object) (eqb x.right q.right) e in
      λ d. record {
        owner = record { 0 = eqb-true x.owner.0 q.owner.0 w.0 d };
        object = eqb-true x.object q.object w.1 d;
        right = eqb-true x.right q.right w.2 d;
        subject = x.subject;
        depth = x.depth;
      }

  match_delegation : (y : KeyDelegation) → matches K q y.owner y.object y.right ≡ true
      → y ≡ record { writer = y.writer; owner = q.owner; object = q.object; right = q.right; delegatee = y.delegatee; depth = y.depth }
  match_delegation y e =
      let w = three (eqb y.owner.0 q.owner.0) (eqb y.object q.object) (eqb y.right q.right) e in
      λ d. record {
        writer = y.writer;
        owner = record { 0 = eqb-true y.owner.0 q.owner.0 w.0 d };
        object = eqb-true y.object q.object w.1 d;
        right = eqb-true y.right q.right w.2 d;
        delegatee = y.delegatee;
        depth = y.depth;
      }

  match_self : matches K q q.owner q.object q.right ≡ true
  match_self = three_pass (eq-eqb q.owner.0 q.owner.0 refl) (eq-eqb q.object q.object refl) (eq-eqb q.right q.right refl)

  -- ---- whatever is reached is given by a chain
  abbrev ByChain : Key → ℕ → Type 0
  ByChain k d = (i : ℕ) × (c : List ℕ) × Chain Y i c k d

  abbrev SoundGiven : Given → Type 0
  SoundGiven g = (d : ℕ) → g.code ≡ suc d → ByChain g.key d

  best_sound : (l : List Given) → All SoundGiven l → (k : Key) (d : ℕ) → best l k ≡ suc d → ByChain k d
  best_sound [] a k d e = absurd (omega arith)
  best_sound (g ∷ l) a k d e = go (max_cases (pick (eqb g.key.0 k.0) g.code 0) (best l k)) (λ h. best_sound l a.1 k d h)
    where
      here : (eqb g.key.0 k.0 ≡ true) × (g.code ≡ suc d) → ByChain k d
      here h =
          let x = a.0 d h.1 in
          let f = eqb-true g.key.0 k.0 h.0 in
          subst (λ (y : Key). ByChain y d) (λ z. record { 0 = f z }) x

      go : (max (pick (eqb g.key.0 k.0) g.code 0) (best l k) ≡ pick (eqb g.key.0 k.0) g.code 0) ⊎ (max (pick (eqb g.key.0 k.0) g.code 0) (best l k) ≡ best l k)
          → (best l k ≡ suc d → ByChain k d) → ByChain k d
      go (inl f) rest = here (picked (eqb g.key.0 k.0) g.code d (sym f ∙ e))
      go (inr f) rest = rest (sym f ∙ e)

  access_sound : (i : ℕ) (x : KeyAccess) → At K.accesses i x → SoundGiven (by_access K q x)
  access_sound i x a d e =
      let w = picked (matches K q x.owner x.object x.right) (suc x.depth) d e in
      let h : x.depth ≡ d = omega (arith, w.1) in
      (i, [], first (rw h at (subst (λ (y : KeyAccess). At K.accesses i y) (match_access x w.0) a)))

  delegation_sound : (l : List Given) → All SoundGiven l → (j : ℕ) (y : KeyDelegation) → At K.delegations j y → SoundGiven (by_delegation K q l y)
  delegation_sound l a j y at d e =
      let w = picked (matches K q y.owner y.object y.right) (step_code (best l y.writer) y.depth) d e in
      let s = step_of_code (best l y.writer) y.depth d w.1 in
      let c = best_sound l a y.writer s.0 s.1 in
      (c.0, c.1 ▷ j, next c.2 refl (subst (λ (z : KeyDelegation). At K.delegations j z) (match_delegation y w.0) at) s.2)

  reached_sound : (n : ℕ) → All SoundGiven (reached K q n)
  unfolding reached
  reached_sound zero = all_map SoundGiven (by_access K q) K.accesses access_sound
  reached_sound (suc n) = all_append SoundGiven (map (by_access K q) K.accesses) (map (by_delegation K q (reached K q n)) K.delegations)
      (all_map SoundGiven (by_access K q) K.accesses access_sound)
      (all_map SoundGiven (by_delegation K q (reached K q n)) K.delegations (delegation_sound (reached K q n) (reached_sound n)))

  -- ---- whatever a chain gives is reached
  roots_best : (i d m : ℕ) (n : Key) → Y.Root i n d → suc d ≤ best (reached K q m) n
  unfolding reached
  roots_best i d m n x = go m
    where
      code : suc d ≤ best (map (by_access K q) K.accesses) n
      code = rw match_self at (best_map (by_access K q) K.accesses i _ x)

      go : (m : ℕ) → suc d ≤ best (reached K q m) n
      go zero = code
      go (suc m) = le_trans code (best_left (map (by_access K q) K.accesses) (map (by_delegation K q (reached K q m)) K.delegations) n)

  steps_best : (l : List Given) (j a d r : ℕ) (k n : Key) → Y.Wrote j k n d → suc a ≤ best l k → Step a d r → suc r ≤ best (map (by_delegation K q l) K.delegations) n
  steps_best l j a d r k n x h s =
      let b : step_code (best l k) d ≤ best (map (by_delegation K q l) K.delegations) n = rw match_self at (best_map (by_delegation K q l) K.delegations j _ x) in
      omega (arith, b, code_more (suc a) (best l k) d h, code_of_step a d r s)

  reached_complete : {i d : ℕ} {c : List ℕ} {n : Key} → Chain Y i c n d → (m : ℕ) → length c ≤ m → suc d ≤ best (reached K q m) n
  unfolding reached
  reached_complete (first {i = i} {d = d} {n = n} x) m h = roots_best i d m n x
  reached_complete (next {j = j} {c = c} x e w s) zero h = absurd (omega (arith, length-append c (j ∷ [])))
  reached_complete (next {j = j} {a = a} {d = d} {r = r} {c = c} {k = k} {n = n} {n' = n'} x e w s) (suc m) h =
      le_trans (steps_best (reached K q m) j a d r k n' w (rw e at (reached_complete x m (omega (arith, length-append c (j ∷ []))))) s) (last m)
    where
      last : (m : ℕ) → best (map (by_delegation K q (reached K q m)) K.delegations) n' ≤ best (reached K q (suc m)) n'
      last m = best_right (map (by_access K q) K.accesses) (map (by_delegation K q (reached K q m)) K.delegations) n'

  module _ (small : (i : ℕ) (x : KeyAccess) → At K.accesses i x → x.depth ≤ top) where
    code_sound : (k : Key) (d : ℕ) → greatest_code K q k ≡ suc d → Granted Y k d
    code_sound k d e =
        let c = best_sound (reached K q top) (reached_sound top) k d e in
        record { name = k; access = chain→access Y fits c.2; means = refl }

    code_complete : (k : Key) (d : ℕ) → Granted Y k d → suc d ≤ greatest_code K q k
    code_complete k d g =
        let c = access→chain Y fits g.access in
        let s = chain_short Y (λ i e n x. small i _ x) c.3 in
        let h = reached_complete c.3 top (omega (arith, s)) in
        rw g.means at (le_trans (suc-le-suc c.4) h)

    -- THE COMPUTED GREATEST DEPTH IS THE GREATEST THAT THE RULES DERIVE.
    pub greatest_right : (k : Key) → Has Y k (verdict_of (greatest_code K q k))
    greatest_right k = go (greatest_code K q k) refl
      where
        go : (c : ℕ) → greatest_code K q k ≡ c → Has Y k (verdict_of c)
        go zero e = nothing (λ d g. not-suc-le-zero (rw e at (code_complete k d g)))
        go (suc d) e = greatest (code_sound k d e) (λ f g. le_of_suc-le-suc (rw e at (code_complete k f g)))
