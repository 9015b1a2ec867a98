-- Following by an account that is sound and closed finds just what the rules for names give.
use mathlib.Core.Path.{refl, subst}
use mathlib.Core.List.{List, [], ◌∷◌, ◌++◌, append_assoc, append-nil}
use Prim.Native.Nat.{ℕ}
use Rattle.rules.specs.Lists.{◌▷◌}
use Rattle.rules.specs.Tables.{Path, Target, to_key, to_name, Binding, NameTable}
use Rattle.rules.specs.Names.{IsSelf, opener, Opens, Means, self, bound_to_key, bound_to_name, TargetMeans, BindingMeans}
use Rattle.rules.specs.Following.{Account, Leads, PathLeads, NameLeads, TargetLeads, having, MeansBy, Sound, Closed}
use Rattle.rules.specs.declared.Key.{Key}
use Rattle.rules.specs.declared.Space.{Space}
use Rattle.rules.proofs.ListsLaws.{at_one}

-- ---- one name more, and one fewer, at a path's end
module _ (t : NameTable) (P : Account) where
  pub path_snoc : (k : Key) (p : Path) (b : ℕ) (m k' : Key) → PathLeads t P k p m → Leads t P m b k' → PathLeads t P k (p ▷ b) k'
  path_snoc k [] b m k' e o = (k', rw e o, refl)
  path_snoc k (c ∷ p) b m k' f o = (f.0, f.1, path_snoc f.0 p b m k' f.2 o)

  pub path_unsnoc : (k : Key) (p : Path) (b : ℕ) (k' : Key) → PathLeads t P k (p ▷ b) k' → (m : Key) × PathLeads t P k p m × Leads t P m b k'
  path_unsnoc k [] b k' f = (k, refl, rw f.2 at f.1)
  path_unsnoc k (c ∷ p) b k' f =
      let r = path_unsnoc f.0 p b k' f.2 in
      (r.0, (f.0, f.1, r.1), r.2)

  pub name_self : {S : Space} {k : Key} → IsSelf t.spaces S k → NameLeads t P S [] k
  name_self {S} {k} s = record { start = k; is_self = s; leads = refl }

  pub name_snoc : {S : Space} {p : Path} {b : ℕ} {k k' : Key} → NameLeads t P S p k → Leads t P k b k' → NameLeads t P S (p ▷ b) k'
  name_snoc {S} {p} {b} {k} {k'} v o = record { start = v.start; is_self = v.is_self; leads = path_snoc v.start p b k k' v.leads o }

  pub name_unsnoc : {S : Space} (p : Path) {b : ℕ} {k' : Key} → NameLeads t P S (p ▷ b) k' → (m : Key) × NameLeads t P S p m × Leads t P m b k'
  name_unsnoc p {b} {k'} v =
      let r = path_unsnoc v.start p b k' v.leads in
      (r.0, record { start = v.start; is_self = v.is_self; leads = r.1 }, r.2)

-- ---- an account that tells more
module _ (t : NameTable) (P Q : Account) (more : (i : ℕ) (k : Key) → P i k → Q i k) where
  pub leads_more : {k : Key} {b : ℕ} {k' : Key} → Leads t P k b k' → Leads t Q k b k'
  leads_more o = record { space = o.space; is_self = o.is_self; number = o.number; target = o.target; opens = o.opens; gives = more _ _ o.gives }

  pub path_more : (k : Key) (p : Path) (k' : Key) → PathLeads t P k p k' → PathLeads t Q k p k'
  path_more k [] k' f = f
  path_more k (b ∷ p) k' f = (f.0, leads_more f.1, path_more f.0 p k' f.2)

  pub name_more : {S : Space} {p : Path} {k : Key} → NameLeads t P S p k → NameLeads t Q S p k
  name_more {S} {p} {k} v = record { start = v.start; is_self = v.is_self; leads = path_more v.start p k v.leads }

  pub target_more : (g : Target) (k : Key) → TargetLeads t P g k → TargetLeads t Q g k
  target_more (to_key k') k e = e
  target_more (to_name S p) k v = name_more v

-- ---- a sound account leads to what is meant
module _ (t : NameTable) (bs : List Binding) where
  -- One more name: the binding that it opens is among `bs`, and its target means the key by these.
  pub means_on : (g : Target) {S T : Space} {p : Path} {b i : ℕ} {k k' : Key} → Means (having t bs) S p k → IsSelf t.spaces T k → Opens bs T b i g
      → TargetMeans (having t bs) g k' → Means (having t bs) S (p ▷ b) k'
  means_on (to_key x) m s o e = bound_to_key m s (rw e at o)
  means_on (to_name S' p') m s o m' = bound_to_name m s o m'

  module _ (P : Account) where
    leads_means : Sound t bs P → {S : Space} {p : Path} {b : ℕ} {k k' : Key} → Means (having t bs) S p k → Leads t P k b k' → Means (having t bs) S (p ▷ b) k'
    leads_means snd {S} {p} {b} {k} {k'} m o = go (snd.sound o.number k' o.gives)
      where
        go : MeansBy t bs o.number k' → Means (having t bs) S (p ▷ b) k'
        go w =
            let e = at_one w.at o.opens.at in
            means_on o.target m o.is_self (record { at = rw e at w.among }) (subst (λ (x : Binding). TargetMeans (having t bs) x.target k') e w.means)

    path_means : Sound t bs P → {S : Space} (p q : Path) (k k' : Key) → Means (having t bs) S p k → PathLeads t P k q k' → Means (having t bs) S (p ++ q) k'
    path_means snd p [] k k' m e = rw append-nil (rw e at m)
    path_means snd p (b ∷ q) k k' m f = rw append_assoc at (path_means snd (p ▷ b) q f.0 k' (leads_means snd m f.1) f.2)

    pub name_means : Sound t bs P → {S : Space} {p : Path} {k : Key} → NameLeads t P S p k → Means (having t bs) S p k
    name_means snd {p = p} {k} v = path_means snd [] p v.start k (self v.is_self) v.leads

    pub target_means : Sound t bs P → (g : Target) (k : Key) → TargetLeads t P g k → TargetMeans (having t bs) g k
    target_means snd (to_key x) k e = e
    target_means snd (to_name S p) k v = name_means snd v

    -- ---- and a closed one to all that is meant
    closed_leads : Closed t bs P → {T : Space} {b j : ℕ} {k k' : Key} (g : Target) → IsSelf t.spaces T k → Opens bs T b j g → TargetLeads t P g k' → Leads t P k b k'
    closed_leads cl {T} {b} {j} {k} {k'} g s o v =
        let r = cl.closed j (record { space = opener T b; base = b; target = g }) k' o.at v in
        record { space = T; is_self = s; number = r.0; target = g; opens = record { at = r.1 }; gives = r.2 }

    pub means_name : Closed t bs P → {S : Space} {p : Path} {k : Key} → Means (having t bs) S p k → NameLeads t P S p k
    means_name cl (self s) = name_self t P s
    means_name cl (bound_to_key {k' = k'} m s o) = name_snoc t P (means_name cl m) (closed_leads cl (to_key k') s o refl)
    means_name cl (bound_to_name {S' = S'} {p' = p'} m s o m') = name_snoc t P (means_name cl m) (closed_leads cl (to_name S' p') s o (means_name cl m'))

    pub means_target : Closed t bs P → (g : Target) (k : Key) → TargetMeans (having t bs) g k → TargetLeads t P g k
    means_target cl (to_key x) k e = e
    means_target cl (to_name S p) k m = means_name cl m

-- ---- the account that tells every meaning is sound and closed
module _ (t : NameTable) where
  pub meanings_sound : Sound t t.bindings (BindingMeans t)
  meanings_sound = record { sound = λ i k w. record { binding = w.binding; at = w.at; number = i; among = w.at; means = w.means } }

  -- The two forms of the rules for names agree.
  pub name→means : {S : Space} {p : Path} {k : Key} → NameLeads t (BindingMeans t) S p k → Means t S p k
  name→means v = name_means t t.bindings (BindingMeans t) meanings_sound v

  leads_by : {T : Space} {b i : ℕ} {k k' : Key} (g : Target) → IsSelf t.spaces T k → Opens t.bindings T b i g → TargetMeans t g k' → Leads t (BindingMeans t) k b k'
  leads_by {T} {b} {i} g s o m = record {
    space = T;
    is_self = s;
    number = i;
    target = g;
    opens = o;
    gives = record { binding = record { space = opener T b; base = b; target = g }; at = o.at; means = m };
  }

  pub means→name : {S : Space} {p : Path} {k : Key} → Means t S p k → NameLeads t (BindingMeans t) S p k
  means→name (self s) = name_self t (BindingMeans t) s
  means→name (bound_to_key {k' = k'} m s o) = name_snoc t (BindingMeans t) (means→name m) (leads_by (to_key k') s o refl)
  means→name (bound_to_name {S' = S'} {p' = p'} m s o m') = name_snoc t (BindingMeans t) (means→name m) (leads_by (to_name S' p') s o m')
