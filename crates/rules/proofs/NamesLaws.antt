-- In a good table a name means at most one key; more bindings take no meaning away; a binding that leads back to itself means nothing.
use mathlib.Core.Path.{◌≡◌, refl, sym, ◌∙◌, ap, subst}
use mathlib.Core.Logic.{◌⊎◌, inl, inr}
use mathlib.Core.List.{List, [], ◌∷◌, ◌++◌, append_assoc}
use Prim.Native.Nat.{ℕ, zero, suc, ◌<◌, ◌+◌}
use native.Mathlib.Nat.{le_refl}
use native.Mathlib.Omega.{arith}
use lib.ListN.{length}
use Rattle.rules.specs.Lists.{At, ◌▷◌}
use Rattle.rules.specs.Tables.{Path, Target, to_key, to_name, Binding, NameTable}
use Rattle.rules.specs.Names.{IsSelf, opener, Opens, Means, self, bound_to_key, bound_to_name, TargetMeans, BindingMeans, Through, TargetThrough, LeadsTo, directly, through_others}
use Rattle.rules.specs.Ranges.{GoodNames, GoodTarget}
use Rattle.rules.specs.Following.{Leads, having}
use Rattle.rules.specs.declared.Key.{Key}
use Rattle.rules.specs.declared.Space.{Space}
use Rattle.rules.proofs.ListsLaws.{at_one}
use Rattle.rules.proofs.FollowingLaws.{name_unsnoc, name→means, means→name}

-- ---- more bindings take no meaning away
module _ (t : NameTable) (bs cs : List Binding) (within : (i : ℕ) (x : Binding) → At bs i x → (j : ℕ) × At cs j x) where
  opens_within : {T : Space} {b i : ℕ} {g : Target} → Opens bs T b i g → (j : ℕ) × Opens cs T b j g
  opens_within {T} {b} {i} {g} o = let r = within i (record { space = opener T b; base = b; target = g }) o.at in (r.0, record { at = r.1 })

  pub means_within : {S : Space} {p : Path} {k : Key} → Means (having t bs) S p k → Means (having t cs) S p k
  means_within (self s) = self s
  means_within (bound_to_key m s o) = bound_to_key (means_within m) s (opens_within o).1
  means_within (bound_to_name m s o m') = bound_to_name (means_within m) s (opens_within o).1 (means_within m')

  pub target_within : (g : Target) (k : Key) → TargetMeans (having t bs) g k → TargetMeans (having t cs) g k
  target_within (to_key x) k e = e
  target_within (to_name S p) k m = means_within m

-- ---- what a meaning ends with
pub self_one : {spaces : List Key} {S : Space} {k k' : Key} → IsSelf spaces S k → IsSelf spaces S k' → k ≡ k'
self_one a b = at_one a.at b.at

module _ (t : NameTable) where
  pub means_nil : {S : Space} {k : Key} → Means t S [] k → IsSelf t.spaces S k
  means_nil d = let v = means→name t d in rw v.leads at v.is_self

  pub means_unsnoc : {S : Space} (p : Path) {b : ℕ} {k : Key} → Means t S (p ▷ b) k → (m : Key) × Means t S p m × Leads t (BindingMeans t) m b k
  means_unsnoc p d =
      let r = name_unsnoc t (BindingMeans t) p (means→name t d) in
      (r.0, name→means t r.1, r.2)

  -- The home of a name with a meaning is a space of the table.
  pub means_home : {S : Space} {p : Path} {k : Key} → Means t S p k → (h : Key) × IsSelf t.spaces S h
  means_home d = let v = means→name t d in (v.start, v.is_self)

  leads_target : {k : Key} {b : ℕ} {k' : Key} (o : Leads t (BindingMeans t) k b k') → TargetMeans t o.target k'
  leads_target {k' = k'} o = subst (λ (x : Binding). TargetMeans t x.target k') (at_one o.gives.at o.opens.at) o.gives.means

  module _ (good : GoodNames t) where
    -- A base name opens one binding.
    pub opens_one : {T : Space} {b i j : ℕ} {g h : Target} → Opens t.bindings T b i g → Opens t.bindings T b j h → (i ≡ j) × (g ≡ h)
    opens_one {T} {b} {i} {j} {g} {h} x y =
        let e = good.bound_once i j _ _ x.at y.at refl refl in
        (e, ap (λ (z : Binding). z.target) (at_one (rw e at x.at) y.at))

    -- So does a base name that a key is asked for.
    pub opening_one : {T T' : Space} {k k' : Key} {b i j : ℕ} {g h : Target} → k ≡ k' → IsSelf t.spaces T k → Opens t.bindings T b i g → IsSelf t.spaces T' k'
        → Opens t.bindings T' b j h → (i ≡ j) × (g ≡ h)
    opening_one {T} {T'} {k} e s o s' o' =
        let q : T ≡ T' = good.keys_apart T T' k s (rw e s') in
        opens_one o (rw q o')

    -- A NAME MEANS AT MOST ONE KEY.
    pub meaning_one : {S : Space} {p : Path} {k k' : Key} → Means t S p k → Means t S p k' → k ≡ k'
    meaning_one (self s) d = self_one s (means_nil d)
    meaning_one {k' = k''} (bound_to_key {p = p} {k' = k'} m s o) d =
        let r = means_unsnoc p d in
        let q = opening_one (meaning_one m r.1) s o r.2.is_self r.2.opens in
        subst (λ (g : Target). TargetMeans t g k'') (sym q.1) (leads_target r.2)
    meaning_one {k' = k''} (bound_to_name {p = p} {k' = k'} m s o m') d =
        let r = means_unsnoc p d in
        let q = opening_one (meaning_one m r.1) s o r.2.is_self r.2.opens in
        meaning_one m' (subst (λ (g : Target). TargetMeans t g k'') (sym q.1) (leads_target r.2))

    pub target_one : (g : Target) (k k' : Key) → TargetMeans t g k → TargetMeans t g k' → k ≡ k'
    target_one (to_key x) k k' a b = sym a ∙ b
    target_one (to_name S p) k k' a b = meaning_one a b

    pub binding_one : {i : ℕ} {k k' : Key} → BindingMeans t i k → BindingMeans t i k' → k ≡ k'
    binding_one {i} {k} {k'} a b =
        target_one b.binding.target k k' (subst (λ (x : Binding). TargetMeans t x.target k) (at_one a.at b.at) a.means) b.means

    -- ---- no meaning is 0
    pub means_some : {S : Space} {p : Path} {k : Key} → Means t S p k → 0 < k.0
    means_some (self {S = S} {k = k} s) = (good.keys S k s).least
    means_some (bound_to_key {i = i} m s o) = (good.bindings i _ o.at).target.least
    means_some (bound_to_name m s o m') = means_some m'

    pub target_some : (g : Target) (k : Key) → GoodTarget (length t.spaces) g → TargetMeans t g k → 0 < k.0
    target_some (to_key x) k h e = rw e at h.least
    target_some (to_name S p) k h m = means_some m

    pub binding_some : {i : ℕ} {k : Key} → BindingMeans t i k → 0 < k.0
    binding_some {i} {k} w = target_some w.binding.target k (good.bindings i w.binding w.at).target w.means

-- ---- which bindings a name goes through
pub snoc_parts : (p : Path) (b : ℕ) (q : Path) (c : ℕ) (r : Path) → p ▷ b ≡ q ++ (c ∷ r) → ((p ≡ q) × (b ≡ c)) ⊎ ((r' : Path) × (p ≡ q ++ (c ∷ r')))
snoc_parts [] b [] c r e = inl (refl, cc)
snoc_parts [] b (x ∷ []) c r e = let z : ◌≡◌ {A = ℕ} 0 1 = cc in absurd (omega arith)
snoc_parts [] b (x ∷ (y ∷ q)) c r e = let z : ◌≡◌ {A = ℕ} 0 1 = cc in absurd (omega arith)
snoc_parts (y ∷ p) b [] c r e = let h : y ≡ c = cc in inr (p, rw h)
snoc_parts (y ∷ p) b (x ∷ q) c r e = let h : y ≡ x = cc in let u : p ▷ b ≡ q ++ (c ∷ r) = cc in go h (snoc_parts p b q c r u)
  where
    go : y ≡ x → ((p ≡ q) × (b ≡ c)) ⊎ ((r' : Path) × (p ≡ q ++ (c ∷ r'))) → ((y ∷ p ≡ x ∷ q) × (b ≡ c)) ⊎ ((r' : Path) × (y ∷ p ≡ x ∷ (q ++ (c ∷ r'))))
    go h (inl w) = inl (rw (h, w.0), w.1)
    go h (inr w) = inr (w.0, rw (h, w.1))

module _ (t : NameTable) where
  -- A longer path goes through as much, and through what it opens last.
  pub through_more : {S : Space} {p : Path} {i : ℕ} (b : ℕ) → Through t S p i → Through t S (p ▷ b) i
  through_more b w = record {
    before = w.before;
    base = w.base;
    after = w.after ▷ b;
    parts = ap (λ (q : Path). q ▷ b) w.parts ∙ append_assoc w.before (w.base ∷ w.after) (b ∷ []);
    key = w.key;
    means = w.means;
    space = w.space;
    is_self = w.is_self;
    target = w.target;
    opens = w.opens;
  }

  pub through_last : {S T : Space} {p : Path} {b i : ℕ} {k : Key} {g : Target} → Means t S p k → IsSelf t.spaces T k → Opens t.bindings T b i g → Through t S (p ▷ b) i
  through_last {T = T} {p} {b} {k = k} {g} m s o = record { before = p; base = b; after = []; parts = refl; key = k; means = m; space = T; is_self = s; target = g; opens = o }

  pub record Last (S : Space) (p : Path) (b i : ℕ) : Type 0 where
    pub key : Key
    pub means : Means t S p key
    pub space : Space
    pub is_self : IsSelf t.spaces space key
    pub target : Target
    pub opens : Opens t.bindings space b i target

  pub through_snoc : {S : Space} (p : Path) (b : ℕ) {i : ℕ} → Through t S (p ▷ b) i → Through t S p i ⊎ Last S p b i
  through_snoc {S} p b {i} w = go (snoc_parts p b w.before w.base w.after w.parts)
    where
      go : ((p ≡ w.before) × (b ≡ w.base)) ⊎ ((r : Path) × (p ≡ w.before ++ (w.base ∷ r))) → Through t S p i ⊎ Last S p b i
      go (inl e) = inr (record { key = w.key; means = rw e.0 w.means; space = w.space; is_self = w.is_self; target = w.target; opens = rw e.1 w.opens })
      go (inr e) = inl (record {
        before = w.before;
        base = w.base;
        after = e.0;
        parts = e.1;
        key = w.key;
        means = w.means;
        space = w.space;
        is_self = w.is_self;
        target = w.target;
        opens = w.opens;
      })

  pub through_nil : {S : Space} {i : ℕ} → Through t S [] i → ⊥
  through_nil w = go w.before w.parts
    where
      go : (q : Path) → [] ≡ q ++ (w.base ∷ w.after) → ⊥
      go [] e = let z : ◌≡◌ {A = ℕ} 0 1 = cc in absurd (omega arith)
      go (x ∷ q) e = let z : ◌≡◌ {A = ℕ} 0 1 = cc in absurd (omega arith)

  -- ---- a meaning's height; a binding that a name goes through has a lower one
  height : {S : Space} {p : Path} {k : Key} → Means t S p k → ℕ
  height (self s) = 0
  height (bound_to_key m s o) = suc (height m)
  height (bound_to_name m s o m') = suc (height m + height m')

  target_height : (g : Target) (k : Key) → TargetMeans t g k → ℕ
  target_height (to_key x) k e = 0
  target_height (to_name S p) k m = suc (height m)

  -- Binding number `i` means a key by a use of the rules that is lower than `n`.
  record Lower (n i : ℕ) : Type 0 where
    pub binding : Binding
    pub at : At t.bindings i binding
    pub key : Key
    pub means : TargetMeans t binding.target key
    pub low : target_height binding.target key means < n

  module _ (good : GoodNames t) where
    through_lower : {S : Space} {p : Path} {k : Key} (m : Means t S p k) {i : ℕ} → Through t S p i → Lower (suc (height m)) i
    unfolding height target_height
    through_lower (self s) w = absurd (through_nil w)
    through_lower (bound_to_key {S = S} {T = T} {p = p} {b = b} {k = k} {k' = k'} m s o) {i} w = go (through_snoc p b w) (λ v. through_lower m v)
      where
        go : Through t S p i ⊎ Last S p b i → (Through t S p i → Lower (suc (height m)) i) → Lower (suc (suc (height m))) i
        go (inl v) rec = let r = rec v in record { binding = r.binding; at = r.at; key = r.key; means = r.means; low = omega (arith, r.low) }
        go (inr v) rec =
            let q = opening_one t good (meaning_one t good v.means m) v.is_self v.opens s o in
            rw q.0 record { binding = record { space = opener T b; base = b; target = to_key k' }; at = o.at; key = k'; means = refl; low = omega arith }
    through_lower (bound_to_name {S = S} {T = T} {S' = S'} {p = p} {p' = p'} {b = b} {k = k} {k' = k'} m s o m') {i} w = go (through_snoc p b w) (λ v. through_lower m v)
      where
        go : Through t S p i ⊎ Last S p b i → (Through t S p i → Lower (suc (height m)) i) → Lower (suc (suc (height m + height m'))) i
        go (inl v) rec = let r = rec v in record { binding = r.binding; at = r.at; key = r.key; means = r.means; low = omega (arith, r.low) }
        go (inr v) rec =
            let q = opening_one t good (meaning_one t good v.means m) v.is_self v.opens s o in
            rw q.0 record { binding = record { space = opener T b; base = b; target = to_name S' p' }; at = o.at; key = k'; means = m'; low = omega arith }

    target_lower : (g : Target) (k : Key) (m : TargetMeans t g k) {i : ℕ} → TargetThrough t g i → Lower (target_height g k m) i
    unfolding target_height
    target_lower (to_key x) k e w = absurd w
    target_lower (to_name S p) k m w = through_lower m w

    -- What a binding leads to means something by a lower use of the rules.
    leads_lower : {i j n : ℕ} → LeadsTo t i j → (r : Lower n i) → Lower (target_height r.binding.target r.key r.means) j
    leads_lower (directly {j = j} {x = x} a w) r =
        target_lower r.binding.target r.key r.means (subst (λ (y : Binding). TargetThrough t y.target j) (at_one a r.at) w)
    leads_lower (through_others a b) r =
        let u = leads_lower a r in
        let v = leads_lower b u in
        record { binding = v.binding; at = v.at; key = v.key; means = v.means; low = omega (arith, u.low, v.low) }

    no_circle : (n : ℕ) {i : ℕ} → LeadsTo t i i → Lower n i → ⊥
    no_circle zero l r = omega (arith, r.low)
    no_circle (suc n) l r =
        let v = leads_lower l r in
        no_circle n l record { binding = v.binding; at = v.at; key = v.key; means = v.means; low = omega (arith, r.low, v.low) }

    -- A BINDING THAT LEADS BACK TO ITSELF MEANS NOTHING.
    pub circle_means_nothing : {i : ℕ} {k : Key} → LeadsTo t i i → BindingMeans t i k → ⊥
    circle_means_nothing {i} {k} l w =
        no_circle (suc (target_height w.binding.target k w.means)) l
        record { binding = w.binding; at = w.at; key = k; means = w.means; low = le_refl _ }
