-- A sheet filled from what stands already lists its bindings in order; at rest it is exact; and an exact sheet is one.
use mathlib.Core.Path.{◌≡◌, refl, sym, ◌∙◌, ap, subst}
use mathlib.Core.Logic.{◌⊎◌, inl, inr, ◌↔◌}
use mathlib.Core.List.{List, [], ◌∷◌}
use Prim.Native.Nat.{ℕ, zero, suc, ◌<◌}
use native.Mathlib.Nat.{zero-lt-suc}
use native.Mathlib.Omega.{arith}
use native.Mathlib.Decide.{ℕ_discrete}
use lib.ListN.{length, set}
use lib.Seq.{get_or-set_same, get_or-set_other}
use Rattle.rules.specs.Lists.{At, ◌▷◌, In}
use Rattle.rules.specs.Tables.{Target, Binding, NameTable}
use Rattle.rules.specs.Names.{TargetMeans, BindingMeans}
use Rattle.rules.specs.Ranges.{GoodNames}
use Rattle.rules.specs.Sheets.{entry, Exact}
use Rattle.rules.specs.Following.{Account, InSheet, TargetLeads, MeansBy, Sound, Closed}
use Rattle.rules.specs.Derivations.{chosen, only}
use Rattle.rules.specs.Filling.{Filling, AtRest}
use Rattle.rules.specs.declared.Key.{Key}
use Rattle.rules.proofs.ListsLaws.{at_one, chosen_listed, listed_chosen, in_snoc, in_left, in_last, twice_snoc}
use Rattle.rules.proofs.FollowingLaws.{target_means, means_target}
use Rattle.rules.proofs.NamesLaws.{target_one, target_some, binding_some}
use Rattle.rules.proofs.ListedLaws.{target_only, target_only_more, ordered_snoc}

module _ (t : NameTable) where
  -- Nothing is filled yet.
  pub filling_start : (sheet : List ℕ) → ((i : ℕ) → i < length t.bindings → entry sheet i ≡ 0) → Filling t sheet []
  filling_start sheet zeros = record {
    ordered = tt;
    none_twice = tt;
    filled = λ i m. absurd m;
    listed = λ i h p. absurd (omega (arith, p, zeros i h));
    sound = record { sound = λ i k w. absurd (omega (arith, w.is, w.some, zeros i w.there)) };
  }

  module _ (good : GoodNames t) where
    leads_some : (sheet : List ℕ) (L : List ℕ) → Filling t sheet L → (i : ℕ) (x : Binding) (k : Key) → At t.bindings i x → TargetLeads t (InSheet t sheet) x.target k
        → TargetMeans (only t L) x.target k × (0 < k.0)
    leads_some sheet L f i x k a v =
        let m = target_means t (chosen t.bindings L) (InSheet t sheet) f.sound x.target k v in
        (m, target_some t good x.target k (good.bindings i x a).target (target_only t L x.target k m))

    -- What stands already leads to a key from an entry that is still 0: it is filled, and listed last.
    pub filling_step : (sheet L : List ℕ) → Filling t sheet L → (i : ℕ) (x : Binding) (k : Key) → At t.bindings i x → i < length sheet → entry sheet i ≡ 0
        → TargetLeads t (InSheet t sheet) x.target k → Filling t (set sheet i k.0) (L ▷ i)
    filling_step sheet L f i x k a fits z v = record {
      ordered = ordered_snoc t [] L i f.ordered (record { binding = x; at = a; key = k; means = m.0 });
      none_twice = twice_snoc L i f.none_twice (λ h. omega (arith, f.filled i h));
      filled = λ j h. fl j (in_snoc L i j h) (ℕ_discrete j i);
      listed = λ j h p. li j h p (ℕ_discrete j i);
      sound = record { sound = λ j k' w. so j k' w (ℕ_discrete j i) };
    }
      where
        m : TargetMeans (only t L) x.target k × (0 < k.0)
        m = leads_some sheet L f i x k a v

        same : (j : ℕ) → j ≡ i → entry (set sheet i k.0) j ≡ k.0
        same j e = rw e (get_or-set_same sheet i k.0 0 fits)

        other : (j : ℕ) → (j ≡ i → ⊥) → entry (set sheet i k.0) j ≡ entry sheet j
        other j n = get_or-set_other sheet i j k.0 0 n

        fl : (j : ℕ) → In L j ⊎ (i ≡ j) → Dec (j ≡ i) → 0 < entry (set sheet i k.0) j
        fl j h (yes e) = rw (same j e) m.1
        fl j (inl h) (no n) = rw (other j n) (f.filled j h)
        fl j (inr e) (no n) = absurd (n (sym e))

        li : (j : ℕ) → j < length t.bindings → 0 < entry (set sheet i k.0) j → Dec (j ≡ i) → In (L ▷ i) j
        li j h p (yes e) = rw e (in_last L i)
        li j h p (no n) = in_left L (i ∷ []) j (f.listed j h (rw (other j n) at p))

        within : (j : ℕ) → In L j → In (L ▷ i) j
        within j h = in_left L (i ∷ []) j h

        so : (j : ℕ) (k' : Key) → InSheet t (set sheet i k.0) j k' → Dec (j ≡ i) → MeansBy t (chosen t.bindings (L ▷ i)) j k'
        so j k' w (yes e) =
            let c = listed_chosen t.bindings (L ▷ i) i x (in_last L i) a in
            let q : k.0 ≡ k'.0 = sym (same j e) ∙ w.is in
            record { binding = x; at = rw e a; number = c.0; among = c.1; means = subst (λ (y : Key). TargetMeans (only t (L ▷ i)) x.target y) (λ d. record { 0 = q d }) (target_only_more t L (L ▷ i) within x.target k m.0) }
        so j k' w (no n) =
            let o = f.sound.sound j k' (record { there = w.there; is = sym (other j n) ∙ w.is; some = w.some }) in
            let b = chosen_listed t.bindings L o.number o.binding o.among in
            let c = listed_chosen t.bindings (L ▷ i) b.0 o.binding (within b.0 b.1) b.2 in
            record { binding = o.binding; at = o.at; number = c.0; among = c.1; means = target_only_more t L (L ▷ i) within o.binding.target k' o.means }

    -- What the listed bindings give, the entries tell.
    pub filling_closed : (sheet L : List ℕ) → Filling t sheet L → Closed t (chosen t.bindings L) (InSheet t sheet)
    filling_closed sheet L f = record { closed = λ j x k a v. go j x k a v }
      where
        go : (j : ℕ) (x : Binding) (k : Key) → At (chosen t.bindings L) j x → TargetLeads t (InSheet t sheet) x.target k → (i : ℕ) × At t.bindings i x × InSheet t sheet i k
        go j x k a v =
            let r = chosen_listed t.bindings L j x a in
            (r.0, r.2, told r.0 r.1 r.2 (leads_some sheet L f r.0 x k r.2 v))
          where
            told : (i : ℕ) → In L i → At t.bindings i x → TargetMeans (only t L) x.target k × (0 < k.0) → InSheet t sheet i k
            told i h b m =
                let e : Key = record { 0 = entry sheet i } in
                let w = f.sound.sound i e (record { there = b.there; is = refl; some = f.filled i h }) in
                let n : TargetMeans (only t L) x.target e = subst (λ (y : Binding). TargetMeans (only t L) y.target e) (at_one w.at b) w.means in
                let q = target_one t good x.target e k (target_only t L x.target e n) (target_only t L x.target k m.0) in
                record { there = b.there; is = ap (λ (y : Key). y.0) q; some = m.1 }

    -- So following by the entries finds what the listed bindings give, and nothing else.
    pub filling_leads : (sheet L : List ℕ) → Filling t sheet L → (g : Target) (k : Key) → TargetLeads t (InSheet t sheet) g k ↔ TargetMeans (only t L) g k
    filling_leads sheet L f g k = (
      target_means t (chosen t.bindings L) (InSheet t sheet) f.sound g k,
      means_target t (chosen t.bindings L) (InSheet t sheet) (filling_closed sheet L f) g k,
    )

    -- ---- at rest
    rest_closed : (sheet L : List ℕ) → Filling t sheet L → AtRest t sheet → Closed t t.bindings (InSheet t sheet)
    rest_closed sheet L f rest = record { closed = λ j x k a v. (j, a, go j x k a v (entry sheet j) refl) }
      where
        go : (j : ℕ) (x : Binding) (k : Key) → At t.bindings j x → TargetLeads t (InSheet t sheet) x.target k → (n : ℕ) → entry sheet j ≡ n → InSheet t sheet j k
        go j x k a v zero e = absurd (rest.at_rest j x k a e v)
        go j x k a v (suc n) e =
            let h = f.listed j a.there (rw e (zero-lt-suc n)) in
            let c = listed_chosen t.bindings L j x h a in
            let r = (filling_closed sheet L f).closed c.0 x k c.1 v in
            let q = good.bound_once r.0 j x x r.1 a refl refl in
            rw q at r.2

    -- A SHEET AT REST IS EXACT.
    pub rest_exact : (sheet L : List ℕ) → Filling t sheet L → AtRest t sheet → Exact t sheet
    rest_exact sheet L f rest = record { meant = λ i k w. meant i k w; sound = λ i h p. sound i h p }
      where
        meant : (i : ℕ) (k : Key) → BindingMeans t i k → entry sheet i ≡ k.0
        meant i k w =
            let cl = rest_closed sheet L f rest in
            let r = cl.closed i w.binding k w.at (means_target t t.bindings (InSheet t sheet) cl w.binding.target k w.means) in
            let q = good.bound_once r.0 i w.binding w.binding r.1 w.at refl refl in
            rw q at r.2.is

        sound : (i : ℕ) → i < length t.bindings → 0 < entry sheet i → BindingMeans t i (record { 0 = entry sheet i })
        sound i h p =
            let e : Key = record { 0 = entry sheet i } in
            let w = f.sound.sound i e (record { there = h; is = refl; some = p }) in
            record { binding = w.binding; at = w.at; means = target_only t L w.binding.target e w.means }

    -- Its order lists every binding that a meaning needs.
    pub rest_listed : (sheet L : List ℕ) → Filling t sheet L → AtRest t sheet → (g : Target) (k : Key) → TargetMeans t g k → TargetMeans (only t L) g k
    rest_listed sheet L f rest g k m = (filling_leads sheet L f g k).0 (means_target t t.bindings (InSheet t sheet) (rest_closed sheet L f rest) g k m)

    -- ---- an exact sheet
    exact_sound : (sheet : List ℕ) → Exact t sheet → Sound t t.bindings (InSheet t sheet)
    exact_sound sheet ex = record { sound = λ i k w. go i k w (ex.sound i w.there (rw w.is w.some)) }
      where
        go : (i : ℕ) (k : Key) → InSheet t sheet i k → BindingMeans t i (record { 0 = entry sheet i }) → MeansBy t t.bindings i k
        go i k w m = record {
          binding = m.binding;
          at = m.at;
          number = i;
          among = m.at;
          means = subst (λ (y : Key). TargetMeans t m.binding.target y) (λ d. record { 0 = w.is d }) m.means;
        }

    exact_closed : (sheet : List ℕ) → Exact t sheet → Closed t t.bindings (InSheet t sheet)
    exact_closed sheet ex = record { closed = λ j x k a v. (j, a, go j x k a (target_means t t.bindings (InSheet t sheet) (exact_sound sheet ex) x.target k v)) }
      where
        go : (j : ℕ) (x : Binding) (k : Key) → At t.bindings j x → TargetMeans t x.target k → InSheet t sheet j k
        go j x k a m =
            let w : BindingMeans t j k = record { binding = x; at = a; means = m } in
            record { there = a.there; is = ex.meant j k w; some = binding_some t good w }

    -- Its entries tell every meaning, and nothing else.
    pub exact_in : (sheet : List ℕ) → Exact t sheet → (i : ℕ) (k : Key) → BindingMeans t i k → InSheet t sheet i k
    exact_in sheet ex i k w = record { there = w.at.there; is = ex.meant i k w; some = binding_some t good w }

    pub exact_out : (sheet : List ℕ) → Exact t sheet → (i : ℕ) (k : Key) → InSheet t sheet i k → BindingMeans t i k
    exact_out sheet ex i k w = let m = (exact_sound sheet ex).sound i k w in record { binding = m.binding; at = m.at; means = m.means }

    -- Following by its entries finds what the rules give, and nothing else.
    pub exact_leads : (sheet : List ℕ) → Exact t sheet → (g : Target) (k : Key) → TargetLeads t (InSheet t sheet) g k ↔ TargetMeans t g k
    exact_leads sheet ex g k = (
      target_means t t.bindings (InSheet t sheet) (exact_sound sheet ex) g k,
      means_target t t.bindings (InSheet t sheet) (exact_closed sheet ex) g k,
    )

-- AN ACCOUNT THAT IS SOUND AND CLOSED IS EXACT.
pub account_exact : (t : NameTable) → GoodNames t → (P : Account) → Sound t t.bindings P → Closed t t.bindings P → (i : ℕ) (k : Key) → P i k ↔ BindingMeans t i k
account_exact t good P snd cl i k = (to, from)
  where
    to : P i k → BindingMeans t i k
    to h = let w = snd.sound i k h in record { binding = w.binding; at = w.at; means = w.means }

    from : BindingMeans t i k → P i k
    from w =
        let r = cl.closed i w.binding k w.at (means_target t t.bindings P cl w.binding.target k w.means) in
        let q = good.bound_once r.0 i w.binding w.binding r.1 w.at refl refl in
        rw q at r.2

-- AN EXACT SHEET IS ONE.
pub exact_one : (t : NameTable) (a b : List ℕ) → Exact t a → Exact t b → (i : ℕ) → i < length t.bindings → entry a i ≡ entry b i
exact_one t a b ea eb i h = go (entry a i) refl (entry b i) refl
  where
    go : (x : ℕ) → entry a i ≡ x → (y : ℕ) → entry b i ≡ y → entry a i ≡ entry b i
    go zero e zero f = e ∙ sym f
    go (suc x) e y f = sym (eb.meant i (record { 0 = entry a i }) (ea.sound i h (rw e (zero-lt-suc x))))
    go zero e (suc y) f = ea.meant i (record { 0 = entry b i }) (eb.sound i h (rw f (zero-lt-suc y)))
