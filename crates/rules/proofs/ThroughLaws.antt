-- Which bindings a name goes through, by its first name first.
use mathlib.Core.Path.{◌≡◌, refl, sym, ap, subst}
use mathlib.Core.Logic.{◌⊎◌, inl, inr, ◌↔◌}
use mathlib.Core.List.{List, [], ◌∷◌, ◌++◌, append_assoc}
use Prim.Native.Nat.{ℕ}
use Rattle.rules.specs.Lists.{At, ◌▷◌, In}
use Rattle.rules.specs.Tables.{Path, Target, to_key, to_name, Binding, NameTable}
use Rattle.rules.specs.Names.{IsSelf, opener, Opens, Means, self, bound_to_key, bound_to_name, TargetMeans, BindingMeans, Through, TargetThrough}
use Rattle.rules.specs.Ranges.{GoodNames}
use Rattle.rules.specs.Sheets.{Exact}
use Rattle.rules.specs.Following.{Account, InSheet, PathLeads, NameLeads, OpensAt, PathThrough}
use Rattle.rules.specs.Derivations.{chosen, only, MeansFrom}
use Rattle.rules.specs.declared.Key.{Key}
use Rattle.rules.specs.declared.Space.{Space}
use Rattle.rules.proofs.ListsLaws.{at_one, chosen_listed, listed_chosen}
use Rattle.rules.proofs.FollowingLaws.{leads_more, means→name, name→means, name_snoc}
use Rattle.rules.proofs.NamesLaws.{self_one, meaning_one, opening_one, through_more, through_last, through_snoc, Last, through_nil}
use Rattle.rules.proofs.ListedLaws.{only_means}
use Rattle.rules.proofs.SheetsLaws.{exact_in, exact_out}

module _ (t : NameTable) where
  path_through_more : (P Q : Account) → ((i : ℕ) (k : Key) → P i k → Q i k) → (p : Path) (k : Key) (i : ℕ) → PathThrough t P k p i → PathThrough t Q k p i
  path_through_more P Q more [] k i w = w
  path_through_more P Q more (b ∷ p) k i (inl o) = inl o
  path_through_more P Q more (b ∷ p) k i (inr w) = inr (w.0, leads_more t P Q more w.1, path_through_more P Q more p w.0 i w.2)

  path→through : {S : Space} (q p : Path) (k : Key) (i : ℕ) → NameLeads t (BindingMeans t) S q k → PathThrough t (BindingMeans t) k p i → Through t S (q ++ p) i
  path→through q [] k i m w = absurd w
  path→through q (b ∷ p) k i m (inl o) = record {
    before = q;
    base = b;
    after = p;
    parts = refl;
    key = k;
    means = name→means t m;
    space = o.space;
    is_self = o.is_self;
    target = o.target;
    opens = o.opens;
  }
  path→through {S} q (b ∷ p) k i m (inr w) =
      subst (λ (r : Path). Through t S r i) (append_assoc q (b ∷ []) p) (path→through (q ▷ b) p w.0 i (name_snoc t (BindingMeans t) m w.1) w.2)

  through→path : (q : Path) (k m : Key) (b i : ℕ) (r : Path) → PathLeads t (BindingMeans t) k q m → OpensAt t m b i → PathThrough t (BindingMeans t) k (q ++ (b ∷ r)) i
  through→path [] k m b i r e o = inl (rw e o)
  through→path (c ∷ q) k m b i r f o = inr (f.0, f.1, through→path q f.0 m b i r f.2 o)

  -- The two forms agree.
  pub through_by_path : {S : Space} {start : Key} → IsSelf t.spaces S start → (p : Path) (i : ℕ) → Through t S p i ↔ PathThrough t (BindingMeans t) start p i
  through_by_path {S} {start} s p i = (to, λ w. path→through [] p start i (record { start = start; is_self = s; leads = refl }) w)
    where
      to : Through t S p i → PathThrough t (BindingMeans t) start p i
      to w =
          let v = means→name t w.means in
          let l : PathLeads t (BindingMeans t) start w.before w.key = subst (λ (k : Key). PathLeads t (BindingMeans t) k w.before w.key) (self_one v.is_self s) v.leads in
          subst (λ (q : Path). PathThrough t (BindingMeans t) start q i) (sym w.parts)
          (through→path w.before start w.key w.base i w.after l (record { space = w.space; is_self = w.is_self; target = w.target; opens = w.opens }))

  module _ (good : GoodNames t) where
    -- So they do by an exact sheet.
    pub through_by_sheet : (sheet : List ℕ) → Exact t sheet → {S : Space} {start : Key} → IsSelf t.spaces S start → (p : Path) (i : ℕ)
        → Through t S p i ↔ PathThrough t (InSheet t sheet) start p i
    through_by_sheet sheet ex {S} {start} s p i =
        let e = through_by_path s p i in (
          λ w. path_through_more (BindingMeans t) (InSheet t sheet) (exact_in t good sheet ex) p start i (e.0 w),
          λ w. e.1 (path_through_more (InSheet t sheet) (BindingMeans t) (exact_out t good sheet ex) p start i w),
        )

    -- ---- a name whose bindings are all listed means by the listed ones what it means
    -- Each listed binding's target gets its meaning from the listed ones.
    abbrev pub AllMean : List ℕ → Type 0
    AllMean L = (i : ℕ) → In L i → MeansFrom t L i

    pub listed_means : (L : List ℕ) → AllMean L → {S : Space} {p : Path} {k : Key} → Means t S p k → ((i : ℕ) → Through t S p i → In L i) → Means (only t L) S p k
    listed_means L all (self s) sub = self s
    listed_means L all (bound_to_key {T = T} {p = p} {b = b} {i = i} {k = k} {k' = k'} m s o) sub =
        let c = listed_chosen t.bindings L i _ (sub i (through_last t m s o)) o.at in
        bound_to_key (listed_means L all m (λ j w. sub j (through_more t b w))) s (record { at = c.1 })
    listed_means L all (bound_to_name {S = S} {T = T} {S' = S'} {p = p} {p' = p'} {b = b} {i = i} {k = k} {k' = k'} m s o m') sub =
        go (all i (sub i (through_last t m s o))) (listed_chosen t.bindings L i _ (sub i (through_last t m s o)) o.at) (listed_means L all m (λ j w. sub j (through_more t b w)))
      where
        go : MeansFrom t L i → (j : ℕ) × At (chosen t.bindings L) j (record { space = opener T b; base = b; target = to_name S' p' }) → Means (only t L) S p k → Means (only t L) S (p ▷ b) k'
        go w c n =
            let e : w.binding.target ≡ to_name S' p' = ap (λ (x : Binding). x.target) (at_one w.at o.at) in
            let v : Means (only t L) S' p' w.key = subst (λ (g : Target). TargetMeans (only t L) g w.key) e w.means in
            let q = meaning_one t good (only_means t L v) m' in
            bound_to_name n s (record { at = c.1 }) (rw q at v)

    pub target_listed_means : (L : List ℕ) → AllMean L → (g : Target) (k : Key) → TargetMeans t g k → ((i : ℕ) → TargetThrough t g i → In L i) → TargetMeans (only t L) g k
    target_listed_means L all (to_key x) k e sub = e
    target_listed_means L all (to_name S p) k m sub = listed_means L all m sub

    -- And what a name goes through that means something by listed bindings is listed.
    last_listed : (L : List ℕ) {S T : Space} {p : Path} {b i : ℕ} {k : Key} {g : Target} → Means (only t L) S p k → IsSelf t.spaces T k
        → Opens (chosen t.bindings L) T b i g → (j : ℕ) → (Through t S p j → In L j) → Through t S (p ▷ b) j → In L j
    last_listed L {S} {T} {p} {b} {i} {k} {g} m s o j rec w = go (through_snoc t p b w)
      where
        go : Through t S p j ⊎ Last t S p b j → In L j
        go (inl v) = rec v
        go (inr v) =
            let c = chosen_listed t.bindings L i _ o.at in
            let q = opening_one t good (meaning_one t good (only_means t L m) v.means) s (record { at = c.2 }) v.is_self v.opens in
            rw q.0 at c.1

    pub means_listed : (L : List ℕ) {S : Space} {p : Path} {k : Key} → Means (only t L) S p k → (j : ℕ) → Through t S p j → In L j
    means_listed L (self s) j w = absurd (through_nil t w)
    means_listed L (bound_to_key m s o) j w = last_listed L m s o j (λ v. means_listed L m j v) w
    means_listed L (bound_to_name m s o m') j w = last_listed L m s o j (λ v. means_listed L m j v) w

    pub target_means_listed : (L : List ℕ) (g : Target) (k : Key) → TargetMeans (only t L) g k → (j : ℕ) → TargetThrough t g j → In L j
    target_means_listed L (to_key x) k e j w = absurd w
    target_means_listed L (to_name S p) k m j w = means_listed L m j w
