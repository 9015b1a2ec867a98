-- Walking, name by name.
use mathlib.Core.Path.{◌≡◌, refl, sym, ◌∙◌, ap, subst}
use mathlib.Core.List.{List, ◌∷◌}
use Prim.Native.Nat.{ℕ, ◌-◌, ◌<◌}
use native.Mathlib.Omega.{arith}
use Rattle.std.specs.Prelude.{Option, Some, None}
use native.Mathlib.Decide.{ℕ_discrete}
use lib.ListN.{length, set, get_or}
use lib.Seq.{get_or-set_other}
use Rattle.rules.specs.Tables.{Target, to_name, NameTable}
use Rattle.rules.specs.Names.{IsSelf, Opens}
use Rattle.rules.specs.Sheets.{entry}
use Rattle.rules.specs.Following.{Account, InSheet, PathLeads, NameLeads, TargetLeads}
use Rattle.rules.specs.declared.Key.{Key}
use Rattle.rules.specs.declared.Space.{Space}
use Rattle.rules.proofs.NamesLaws.{self_one, opens_one}
use Rattle.records.specs.Paths.{path_of}
use Rattle.records.specs.Targets.{target_of}
use Rattle.records.specs.declared.paths.Path.{Path}
use Rattle.records.specs.declared.targets.Target.{Target as TargetValue}
use Rattle.records.specs.declared.targets.Target.TheVariants as as_target
use Rattle.table.specs.Finding.{FindsSpace, keys_of, FindsNamed}
use Rattle.sheet.specs.Finds.{Finds, Index, Fitting, rest_of}
use Rattle.sheet.specs.Finds.{key as finds_key, nothing as finds_nothing}
use Rattle.sheet.specs.Walks.{Grown, Stopped, Nowhere, Walks, key, waits, nothing, for_now}
use Rattle.sheet.specs.declared.following.Walked.{Walked}
use Rattle.sheet.specs.declared.following.Walked.TheVariants as walked
use Rattle.sheet.proofs.FindsLaws.{path_none, path_first, rest_fits, space_has, space_none, binding_opens, binding_none, own_key}

-- ---- a sheet that grows
pub grown_none : (sheet : List ℕ) → Grown sheet sheet
grown_none sheet = record { stays = λ i h. refl }

pub grown_set : (sheet : List ℕ) (i v : ℕ) → entry sheet i ≡ 0 → Grown sheet (set sheet i v)
grown_set sheet i v z = record { stays = λ j h. go j h (ℕ_discrete j i) }
  where
    go : (j : ℕ) → 0 < entry sheet j → Dec (j ≡ i) → entry (set sheet i v) j ≡ entry sheet j
    go j h (yes e) = let q : entry sheet j ≡ 0 = ap (entry sheet) e ∙ z in absurd (omega arith)
    go j h (no d) = get_or-set_other sheet i j v 0 d

pub stopped_on : (t : NameTable) (sheet next : List ℕ) (g : Target) (j : ℕ) → Grown sheet next → Stopped t sheet g j → Stopped t next g j
stopped_on t sheet next g j grown s = record { stopped = λ later more. s.stopped later (record { stays = λ i h. more.stays i (rw (grown.stays i h) h) ∙ grown.stays i h }) }

-- ---- a name, by the binding that its space opens for its first part
module _ (t : NameTable) (keys names sheet : List ℕ) (index : Index t keys names) (S : Space) (p : Path) (fits : Fitting p) where
  pub at_its_end : S.0 < length keys → p.length ≡ 0 → Walks t sheet (to_name S (path_of p)) (walked.Key (record { 0 = get_or keys S.0 0 }))
  at_its_end h e = subst (λ (q : List ℕ). Walks t sheet (to_name S q) (walked.Key (record { 0 = get_or keys S.0 0 }))) (sym (path_none p e))
      (key (record { 0 = get_or keys S.0 0 }) (record { start = record { 0 = get_or keys S.0 0 }; is_self = own_key t keys names index S h; leads = refl }))

  module _ (some : p.length ≡ 0 → ⊥) (r : Option ℕ) (f : FindsNamed names S p.first r) where
    by_first : (P : Account) (k : Key) → NameLeads t P S (path_of p) k
        → (i : ℕ) × (x : Target) × Opens t.bindings S p.first i x × (m : Key) × P i m × PathLeads t P m (path_of (rest_of p)) k
    by_first P k v = go (subst (λ (q : List ℕ). NameLeads t P S q k) (path_first p fits some) v)
      where
        go : NameLeads t P S (p.first ∷ path_of (rest_of p)) k → (i : ℕ) × (x : Target) × Opens t.bindings S p.first i x × (m : Key) × P i m × PathLeads t P m (path_of (rest_of p)) k
        go v =
            let w = v.leads.1 in
            let h = index.good.keys_apart w.space S v.start w.is_self v.is_self in
            (w.number, w.target, subst (λ (U : Space). Opens t.bindings U p.first w.number w.target) h w.opens, v.leads.0, w.gives, v.leads.2)

    pub not_bound : r ≡ None → Walks t sheet (to_name S (path_of p)) walked.Nothing
    not_bound e = nothing (record { nowhere = λ later grown k v. let o = by_first (InSheet t later) k v in binding_none (f t.bindings index.bindings) e o.0 o.1 o.2 })

    module _ (i : ℕ) (e : r ≡ Some i) where
      abbrev pub its_key : Key
      its_key = record { 0 = entry sheet i }

      opened : (x : Target) × Opens t.bindings S p.first i x
      opened = binding_opens i (f t.bindings index.bindings) e

      by_entry : (P : Account) (k : Key) → NameLeads t P S (path_of p) k → (m : Key) × P i m × PathLeads t P m (path_of (rest_of p)) k
      by_entry P k v =
          let o = by_first P k v in
          let h = (opens_one t index.good o.2 opened.1).0 in
          (o.3, subst (λ (j : ℕ). P j o.3) h o.4, o.5)

      pub still_empty : entry sheet i ≡ 0 → Walks t sheet (to_name S (path_of p)) (walked.Waits i)
      still_empty z = waits i opened.1.at.there z (record { stopped = λ later grown y k v. let o = by_entry (InSheet t later) k v in omega (arith, y, o.1.is, o.1.some) })

      module _ (full : entry sheet i ≡ 0 → ⊥) where
        -- From its first name's key it goes on with one name fewer, in a sheet that grew too.
        onward : (later : List ℕ) → Grown sheet later → (k : Key) → NameLeads t (InSheet t later) S (path_of p) k → PathLeads t (InSheet t later) its_key (path_of (rest_of p)) k
        onward later grown k v =
            let o = by_entry (InSheet t later) k v in
            let h : 0 < entry sheet i = omega (arith, full) in
            let same : o.0.0 ≡ entry sheet i = sym o.1.is ∙ grown.stays i h in
            subst (λ (m : Key). PathLeads t (InSheet t later) m (path_of (rest_of p)) k) (ap (λ (n : ℕ). record { 0 = n }) same) o.2

        module _ (h : S.0 < length keys) where
          back : (k : Key) → PathLeads t (InSheet t sheet) its_key (path_of (rest_of p)) k → NameLeads t (InSheet t sheet) S (path_of p) k
          back k w = subst (λ (q : List ℕ). NameLeads t (InSheet t sheet) S q k) (sym (path_first p fits some)) (record {
            start = record { 0 = get_or keys S.0 0 };
            is_self = own_key t keys names index S h;
            leads = (
              its_key,
              record {
                space = S;
                is_self = own_key t keys names index S h;
                number = i;
                target = opened.0;
                opens = opened.1;
                gives = record { there = opened.1.at.there; is = refl; some = omega (arith, full) };
              },
              w,
            );
          })

          pub last_name : p.length ≡ 1 → Walks t sheet (to_name S (path_of p)) (walked.Key its_key)
          last_name e =
              let z : p.length - 1 ≡ 0 = omega arith in
              key its_key (back its_key (subst (λ (q : List ℕ). PathLeads t (InSheet t sheet) its_key q its_key) (sym (path_none (rest_of p) z)) refl))

          module _ (a : Option Space) (g : FindsSpace (keys_of keys) its_key a) where
            pub nobody_has : (p.length ≡ 1 → ⊥) → a ≡ None → Walks t sheet (to_name S (path_of p)) walked.Nothing
            nobody_has n y = nothing (record { nowhere = λ later grown k v. none later k (onward later grown k v) })
              where
                none : (later : List ℕ) (k : Key) → PathLeads t (InSheet t later) its_key (path_of (rest_of p)) k → ⊥
                none later k w =
                    let q : p.length - 1 ≡ 0 → ⊥ = λ z. n (omega (arith, z, some)) in
                    let l = subst (λ (q : List ℕ). PathLeads t (InSheet t later) its_key q k) (path_first (rest_of p) (rest_fits p (rest_of p) refl fits) q) w in
                    space_none g y l.1.space (subst (λ (keys : List Key). IsSelf keys l.1.space its_key) (sym index.spaces) l.1.is_self)

            module _ (T : Space) (y : a ≡ Some T) where
              home : IsSelf t.spaces T its_key
              home = subst (λ (l : List Key). IsSelf l T its_key) index.spaces (space_has T g y)

              there : (later : List ℕ) → Grown sheet later → (k : Key) → NameLeads t (InSheet t later) S (path_of p) k → NameLeads t (InSheet t later) T (path_of (rest_of p)) k
              there later grown k v = record { start = its_key; is_self = home; leads = onward later grown k v }

              on_from_there : (b : Walked) → Walks t sheet (to_name T (path_of (rest_of p))) b → Walks t sheet (to_name S (path_of p)) b
              on_from_there b (key k w) = key k (back k (subst (λ (m : Key). PathLeads t (InSheet t sheet) m (path_of (rest_of p)) k) (self_one w.is_self home) w.leads))
              on_from_there b (waits j l z w) = waits j l z (record { stopped = λ later grown u k v. w.stopped later grown u k (there later grown k v) })
              on_from_there b (nothing w) = nothing (record { nowhere = λ later grown k v. w.nowhere later grown k (there later grown k v) })

              pub goes_on : (rest : Path) → rest ≡ rest_of p → (b : Walked) → Walks t sheet (to_name T (path_of rest)) b → Walks t sheet (to_name S (path_of p)) b
              goes_on rest z b w = on_from_there b (subst (λ (q : Path). Walks t sheet (to_name T (path_of q)) b) z w)

-- ---- a whole target
module _ (t : NameTable) (sheet : List ℕ) (g : TargetValue) where
  pub target_key_lem : (k : Key) → g ≡ as_target.Key k → Walks t sheet (target_of g) (walked.Key k)
  target_key_lem k e = subst (λ (h : TargetValue). Walks t sheet (target_of h) (walked.Key k)) (sym e) (key k refl)

  pub target_name : (S : Space) (p : Path) → g ≡ as_target.Name S p → (r : Walked) → Walks t sheet (to_name S (path_of p)) r → Walks t sheet (target_of g) r
  target_name S p e r w = subst (λ (h : TargetValue). Walks t sheet (target_of h) r) (sym e) w

-- ---- what was found
module _ (t : NameTable) (sheet : List ℕ) (g : Target) where
  pub walks_key : (r : Walked) (k : Key) → Walks t sheet g r → r ≡ walked.Key k → TargetLeads t (InSheet t sheet) g k
  walks_key _ k (key m l) e = let q : m ≡ k = cc in subst (TargetLeads t (InSheet t sheet) g) q l
  walks_key _ k (waits j h z s) e = let z : ◌≡◌ {A = ℕ} 0 1 = cc in absurd (omega arith)
  walks_key _ k (nothing s) e = let z : ◌≡◌ {A = ℕ} 0 1 = cc in absurd (omega arith)

  pub walks_waits : (r : Walked) (j : ℕ) → Walks t sheet g r → r ≡ walked.Waits j → (j < length t.bindings) × (entry sheet j ≡ 0) × Stopped t sheet g j
  walks_waits _ j (key m l) e = let z : ◌≡◌ {A = ℕ} 0 1 = cc in absurd (omega arith)
  walks_waits _ j (waits i h z s) e = let q : i ≡ j = cc in subst (λ (n : ℕ). (n < length t.bindings) × (entry sheet n ≡ 0) × Stopped t sheet g n) q (h, z, s)
  walks_waits _ j (nothing s) e = let z : ◌≡◌ {A = ℕ} 0 1 = cc in absurd (omega arith)

  pub walks_nothing : (r : Walked) → Walks t sheet g r → r ≡ walked.Nothing → Nowhere t sheet g
  walks_nothing _ (key m l) e = let z : ◌≡◌ {A = ℕ} 0 1 = cc in absurd (omega arith)
  walks_nothing _ (waits i h z s) e = let z : ◌≡◌ {A = ℕ} 0 1 = cc in absurd (omega arith)
  walks_nothing _ (nothing s) e = s

-- ---- for now
pub found_now : (t : NameTable) (sheet : List ℕ) (g : Target) (w : Walked) (r : Option Key) → r ≡ for_now w → Walks t sheet g w → Finds (TargetLeads t (InSheet t sheet) g) r
found_now t sheet g w r e v = subst (λ (a : Option Key). Finds (TargetLeads t (InSheet t sheet) g) a) (sym e) (go w v)
  where
    go : (w : Walked) → Walks t sheet g w → Finds (TargetLeads t (InSheet t sheet) g) (for_now w)
    go _ (key k l) = finds_key k l
    go _ (waits j l z s) = finds_nothing (λ k v. s.stopped sheet (grown_none sheet) z k v)
    go _ (nothing s) = finds_nothing (λ k v. s.nowhere sheet (grown_none sheet) k v)
