-- Access by the rules is access by a chain; a chain has one depth, and at most 16 records.
use mathlib.Core.Path.{◌≡◌, refl, sym, ◌∙◌, ap, subst₂}
use mathlib.Core.Logic.{◌↔◌}
use mathlib.Core.List.{List, [], ◌∷◌, ◌++◌, append_assoc, append-nil}
use Prim.Native.Nat.{ℕ, zero, suc, ◌≤◌, ◌+◌}
use native.Mathlib.Nat.{le_refl}
use native.Mathlib.Omega.{arith}
use native.Mathlib.Decide.{ℕ_discrete}
use lib.ListN.{length, length-append}
use Rattle.rules.specs.Lists.{◌▷◌}
use Rattle.rules.specs.Depths.{top, Step}
use Rattle.rules.specs.Tables.{AccessRecord, Delegation, Table, Asked}
use Rattle.rules.specs.Ranges.{Good}
use Rattle.rules.specs.Access.{Setting, Delegates, Access, Granted, Chain, first, next, Name, Meaning, Lists, Writes, setting_by}
use Rattle.rules.specs.KeyTables.{KeyAccess, KeyDelegation, KeyTable, key_setting}
use Rattle.rules.specs.declared.Key.{Key}
use Rattle.rules.specs.declared.Space.{Space}
use Rattle.rules.proofs.ListsLaws.{at_one}
use Rattle.rules.proofs.DepthsLaws.{Fits, step_one, step_down}

-- ---- down to any lower depth
module _ (F : ℕ → Type 0) (down : (d : ℕ) → F (suc d) → F d) where
  lower_to : (a d : ℕ) → d ≤ a → F a → F d
  lower_to zero d h x = let e : d ≡ 0 = omega arith in rw e x
  lower_to (suc a) d h x = go (ℕ_discrete d (suc a)) (λ l. lower_to a d l (down a x))
    where
      go : Dec (d ≡ suc a) → (d ≤ a → F d) → F d
      go (yes e) k = rw e x
      go (no e) k = k (omega arith)

module _ (Y : Setting) where
  delegates_to : {a d : ℕ} {k : Key} {n : Y.Name} → d ≤ a → Delegates Y k n a → Delegates Y k n d
  delegates_to {a} {d} {k} {n} h x = lower_to (λ e. Delegates Y k n e) (λ e y. Delegates.lowered y) a d h x

  -- A delegation at a depth was written at that depth or a greater one.
  delegates_from : {d : ℕ} {k : Key} {n : Y.Name} → Delegates Y k n d → (j : ℕ) × (e : ℕ) × Y.Wrote j k n e × (d ≤ e)
  delegates_from (Delegates.written {j = j} {d = d} w) = (j, d, w, le_refl d)
  delegates_from (Delegates.lowered x) = let r = delegates_from x in (r.0, r.1, r.2, omega (arith, r.3))

  pub access_to : {a d : ℕ} {n : Y.Name} → d ≤ a → Access Y n a → Access Y n d
  access_to {a} {d} {n} h x = lower_to (λ e. Access Y n e) (λ e y. Access.lowered y) a d h x

  -- ---- the rules and the chains agree
  module _ (fits : Fits Y.Above) where
    -- A chain gives access at its depth.
    pub chain→access : {i d : ℕ} {c : List ℕ} {n : Y.Name} → Chain Y i c n d → Access Y n d
    chain→access (first x) = Access.root x
    chain→access (next {a = a} {d = d} {r = r} c m w s) =
        let f = fits.allowed a d r s in
        Access.delegated (access_to f.1.1 (chain→access c)) f.1.2 m (delegates_to f.0 (Delegates.written w))

    -- Access is given by a chain that reaches as deep, or deeper.
    pub access→chain : {d : ℕ} {n : Y.Name} → Access Y n d → (i : ℕ) × (c : List ℕ) × (r : ℕ) × Chain Y i c n r × (d ≤ r)
    access→chain (Access.root {i = i} {d = d} x) = (i, [], d, first x, le_refl d)
    access→chain (Access.delegated {a = a} {d = d} x up m g) =
        let h = access→chain x in
        let w = delegates_from g in
        let b = fits.best h.2 w.1 d a w.3 up h.4 in
        (h.0, h.1 ▷ w.0, b.0, next h.3 m w.2 b.1, b.2)
    access→chain (Access.lowered x) = let h = access→chain x in (h.0, h.1, h.2, h.3, omega (arith, h.4))

    pub access_by_chain : (n : Y.Name) (d : ℕ) → Access Y n d ↔ ((i : ℕ) × (c : List ℕ) × (r : ℕ) × Chain Y i c n r × (d ≤ r))
    access_by_chain n d = (access→chain, λ h. access_to h.4 (chain→access h.3))

  -- ---- a chain falls with each record
  pub chain_short : ((i d : ℕ) (n : Y.Name) → Y.Root i n d → d ≤ top) → {i d : ℕ} {c : List ℕ} {n : Y.Name} → Chain Y i c n d → length c + d ≤ top
  chain_short bounded (first {i = i} {d = d} {n = n} x) = omega (arith, bounded i d n x)
  chain_short bounded (next {j = j} {c = c} x m w s) = omega (arith, chain_short bounded x, step_down s, length-append c (j ∷ []))

  -- ---- a chain read from its first record on, as a checker goes
  abbrev pub Goes : Y.Name → ℕ → List ℕ → Y.Name → ℕ → Type 0
  Goes n a [] n' r = (n ≡ n') × (a ≡ r)
  Goes n a (j ∷ c) n' r = (k : Key) × (m : Y.Name) × (d : ℕ) × (b : ℕ) × Y.Means n k × Y.Wrote j k m d × Step a d b × Goes m b c n' r

  goes_snoc : (n : Y.Name) (a : ℕ) (c : List ℕ) (m : Y.Name) (b : ℕ) → Goes n a c m b → (j d r : ℕ) (k : Key) (n' : Y.Name)
      → Y.Means m k → Y.Wrote j k n' d → Step b d r → Goes n a (c ▷ j) n' r
  goes_snoc n a [] m b g j d r k n' x w s = (k, n', d, r, rw g.0 x, w, rw g.1 s, (refl, refl))
  goes_snoc n a (i ∷ c) m b g j d r k n' x w s = (g.0, g.1, g.2, g.3, g.4, g.5, g.6, goes_snoc g.1 g.3 c m b g.7 j d r k n' x w s)

  -- The chain's first record, and how it goes on from there.
  abbrev pub ChainGoes : ℕ → List ℕ → Y.Name → ℕ → Type 0
  ChainGoes i c n r = (m : Y.Name) × (a : ℕ) × Y.Root i m a × Goes m a c n r

  pub chain→goes : {i r : ℕ} {c : List ℕ} {n : Y.Name} → Chain Y i c n r → ChainGoes i c n r
  chain→goes (first {d = d} {n = n} x) = (n, d, x, (refl, refl))
  chain→goes (next {j = j} {a = a} {d = d} {r = r} {c = c} {k = k} {n = n} {n' = n'} x m w s) =
      let g = chain→goes x in
      (g.0, g.1, g.2, goes_snoc g.0 g.1 c n a g.3 j d r k n' m w s)

  chain_on : {i : ℕ} {c : List ℕ} (m : Y.Name) (a : ℕ) (js : List ℕ) (n : Y.Name) (r : ℕ) → Chain Y i c m a → Goes m a js n r → Chain Y i (c ++ js) n r
  chain_on {i} {c} m a [] n r x g = rw append-nil (subst₂ (λ (y : Y.Name) (b : ℕ). Chain Y i c y b) g.0 g.1 x)
  chain_on m a (j ∷ js) n r x g = rw append_assoc at (chain_on g.1 g.3 js n r (next {j = j} x g.4 g.5 g.6) g.7)

  pub goes→chain : (i : ℕ) (c : List ℕ) (n : Y.Name) (r : ℕ) → ChainGoes i c n r → Chain Y i c n r
  goes→chain i c n r g = chain_on g.0 g.1 c n r (first g.2) g.3

  -- ---- what a record says is determined by its number; so is what a chain gives
  pub record Fixed : Type 0 where
    pub root : (i d d' : ℕ) (n n' : Y.Name) → Y.Root i n d → Y.Root i n' d' → (n ≡ n') × (d ≡ d')
    pub wrote : (j d d' : ℕ) (k k' : Key) (n n' : Y.Name) → Y.Wrote j k n d → Y.Wrote j k' n' d' → (n ≡ n') × (d ≡ d')

  module _ (fixed : Fixed) where
    goes_one : (c : List ℕ) (n n' m m' : Y.Name) (a a' r r' : ℕ) → n ≡ n' → a ≡ a' → Goes n a c m r → Goes n' a' c m' r' → (m ≡ m') × (r ≡ r')
    goes_one [] n n' m m' a a' r r' e f g g' = (sym g.0 ∙ e ∙ g'.0, sym g.1 ∙ f ∙ g'.1)
    goes_one (j ∷ c) n n' m m' a a' r r' e f g g' =
        let w = fixed.wrote j g.2 g'.2 g.0 g'.0 g.1 g'.1 g.5 g'.5 in
        let s : Step a g.2 g'.3 = subst₂ (λ (x y : ℕ). Step x y g'.3) (sym f) (sym w.1) g'.6 in
        goes_one c g.1 g'.1 m m' g.3 g'.3 r r' w.0 (step_one g.6 s) g.7 g'.7

    -- A CHAIN HAS ONE DEPTH.
    pub chain_one : {i r r' : ℕ} {c : List ℕ} {n n' : Y.Name} → Chain Y i c n r → Chain Y i c n' r' → (n ≡ n') × (r ≡ r')
    chain_one {i} {r} {r'} {c} {n} {n'} x y =
        let g = chain→goes x in
        let h = chain→goes y in
        let w = fixed.root i g.1 h.1 g.0 h.0 g.2 h.2 in
        goes_one c g.0 h.0 n n' g.1 h.1 r r' w.0 w.1 g.3 h.3

pub table_fixed : (M : Meaning) (t : Table) (q : Asked Space) → Fixed (setting_by M t q)
table_fixed M t q = record { root = λ i d d' n n' x y. root i d d' n n' x y; wrote = λ j d d' k k' n n' x y. wrote j d d' k k' n n' x y }
  where
    root : (i d d' : ℕ) (n n' : Name) → Lists t q i n d → Lists t q i n' d' → (n ≡ n') × (d ≡ d')
    root i d d' n n' x y =
        let e = at_one x.at y.at in
        let s = x.of_owner ∙ sym y.of_owner in
        (λ z. record { space = s z; path = (e z).path }, ap (λ (w : AccessRecord). w.depth) e)

    wrote : (j d d' : ℕ) (k k' : Key) (n n' : Name) → Writes M t q j k n d → Writes M t q j k' n' d' → (n ≡ n') × (d ≡ d')
    wrote j d d' k k' n n' x y =
        let e = at_one x.at y.at in
        (λ z. record { space = (e z).writer; path = (e z).delegatee_path }, ap (λ (w : Delegation). w.depth) e)

pub keys_fixed : (K : KeyTable) (q : Asked Key) → Fixed (key_setting K q)
keys_fixed K q = record {
  root = λ i d d' n n' x y. let e = at_one x y in (ap (λ (w : KeyAccess). w.subject) e, ap (λ (w : KeyAccess). w.depth) e);
  wrote = λ j d d' k k' n n' x y. let e = at_one x y in (ap (λ (w : KeyDelegation). w.delegatee) e, ap (λ (w : KeyDelegation). w.depth) e);
}

-- AT MOST 16 RECORDS ARE EVER NEEDED.
pub table_chain_short : (M : Meaning) (t : Table) → Good t → (q : Asked Space) {i d : ℕ} {c : List ℕ} {n : Name} → Chain (setting_by M t q) i c n d → length c + d ≤ top
table_chain_short M t good q x = chain_short (setting_by M t q) (λ i d n y. (good.accesses i _ y.at).depth) x

-- ---- one setting within another: what the one gives, the other gives
module _ (Y Z : Setting)
    (above : (d a : ℕ) → Y.Above d a → Z.Above d a)
    (roots : (i d : ℕ) (k : Key) (n : Y.Name) → Y.Root i n d → Y.Means n k → (i' : ℕ) × (n' : Z.Name) × Z.Root i' n' d × Z.Means n' k)
    (writes : (j d : ℕ) (k k' : Key) (n : Y.Name) → Y.Wrote j k n d → Y.Means n k' → (j' : ℕ) × (n' : Z.Name) × Z.Wrote j' k n' d × Z.Means n' k') where
  move_delegates : {d : ℕ} {k k' : Key} {n : Y.Name} → Delegates Y k n d → Y.Means n k' → (n' : Z.Name) × Delegates Z k n' d × Z.Means n' k'
  move_delegates {k' = k'} (Delegates.written {j = j} {d = d} {k = k} {n = n} w) m =
      let r = writes j d k k' n w m in
      (r.1, Delegates.written r.2, r.3)
  move_delegates (Delegates.lowered x) m = let r = move_delegates x m in (r.0, Delegates.lowered r.1, r.2)

  move_access : {d : ℕ} {k : Key} {n : Y.Name} → Access Y n d → Y.Means n k → Granted Z k d
  move_access {k = k} (Access.root {i = i} {d = d} {n = n} x) m = let r = roots i d k n x m in record { name = r.1; access = Access.root r.2; means = r.3 }
  move_access (Access.delegated {a = a} {d = d} x up m' g) m =
      let b = move_access x m' in
      let r = move_delegates g m in
      record { name = r.0; access = Access.delegated b.access (above d a up) b.means r.1; means = r.2 }
  move_access (Access.lowered x) m = let b = move_access x m in record { name = b.name; access = Access.lowered b.access; means = b.means }

  pub granted_within : {d : ℕ} {k : Key} → Granted Y k d → Granted Z k d
  granted_within g = move_access g.access g.means
