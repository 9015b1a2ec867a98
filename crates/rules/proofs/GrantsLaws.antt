-- Every grant at the greatest depth has a derivation that holds at exactly that depth, with at most 16 chain records and nothing idle.
use mathlib.Core.Path.{◌≡◌, refl, ap, subst}
use mathlib.Core.Bool.{true}
use mathlib.Core.Logic.{◌⊎◌, inl, inr}
use mathlib.Core.List.{List, [], ◌∷◌, ◌++◌}
use mathlib.Core.Option.{Option, none, some}
use Prim.Native.Nat.{ℕ, ◌≤◌}
use native.Mathlib.Nat.{le_antisymm}
use native.Mathlib.Omega.{arith}
use lib.ListN.{get_elem?}
use Rattle.rules.specs.Lists.{At, ◌▷◌, In, NoneTwice, keep}
use Rattle.rules.specs.Tables.{Target, Binding, Delegation, NameTable, Table, Request}
use Rattle.rules.specs.Names.{TargetMeans, TargetThrough}
use Rattle.rules.specs.Ranges.{Good}
use Rattle.rules.specs.Sheets.{Exact}
use Rattle.rules.specs.Rounds.{sheet_of}
use Rattle.rules.specs.Access.{Granted, Chain, setting}
use Rattle.rules.specs.Derivations.{Derivation, OrderedAfter, Holds, Used, by_subject, by_binding, by_access, by_owner_path, by_delegatee_path, NoneIdle, Shown}
use Rattle.rules.specs.Verdicts.{Verdict, granted, Has, greatest, Decides, named, means_nothing}
use Rattle.rules.specs.declared.Key.{Key}
use Rattle.rules.proofs.ListsLaws.{at_one, some_at, at_some, in_snoc, in_left, in_right, in_either}
use Rattle.rules.proofs.SheetsLaws.{rest_listed}
use Rattle.rules.proofs.ThroughLaws.{target_means_listed}
use Rattle.rules.proofs.NeededLaws.{keep_in, among, among_in, wants, Earlier, wants_more, WantedBy, wants_why, wants_closed}
use Rattle.rules.proofs.DepthsLaws.{fits}
use Rattle.rules.proofs.AccessLaws.{chain→access, access→chain, chain_short}
use Rattle.rules.proofs.RoundsLaws.{sheet_ended, sheet_exact}
use Rattle.rules.proofs.DerivationsLaws.{Covers, GivesAll, covered_holds}
use Rattle.rules.proofs.NumbersLaws.{name_numbers, target_numbers, name_numbers_lem, target_numbers_lem}

-- ---- the numbers that a list's record goes through
of_record : {A : Type 0} → (A → List ℕ) → Option A → List ℕ
of_record f none = []
of_record f (some x) = f x

module _ {A : Type 0} (l : List A) (f : A → List ℕ) (i : ℕ) where
  of_at : (x : A) → At l i x → of_record f (get_elem? l i) ≡ f x
  unfolding of_record
  of_at x a = rw (at_some a)

  at_of : (j : ℕ) → In (of_record f (get_elem? l i)) j → (x : A) × At l i x × In (f x) j
  unfolding of_record
  at_of j h = go (get_elem? l i) refl h
    where
      go : (o : Option A) → get_elem? l i ≡ o → In (of_record f o) j → (x : A) × At l i x × In (f x) j
      go none e h = absurd h
      go (some x) e h = (x, some_at l i x e, h)

-- The numbers of all that are listed.
of_all : (ℕ → List ℕ) → List ℕ → List ℕ
of_all f [] = []
of_all f (m ∷ c) = f m ++ of_all f c

in_all : (f : ℕ → List ℕ) (c : List ℕ) (m j : ℕ) → In c m → In (f m) j → In (of_all f c) j
unfolding of_all
in_all f [] m j h n = absurd h
in_all f (x ∷ c) m j (inl e) n = in_left (f x) (of_all f c) j (rw e n)
in_all f (x ∷ c) m j (inr h) n = in_right (f x) (of_all f c) j (in_all f c m j h n)

all_in : (f : ℕ → List ℕ) (c : List ℕ) (j : ℕ) → In (of_all f c) j → (m : ℕ) × In c m × In (f m) j
unfolding of_all
all_in f [] j h = absurd h
all_in f (x ∷ c) j h = go (in_either (f x) (of_all f c) j h) (λ g. all_in f c j g)
  where
    go : In (f x) j ⊎ In (of_all f c) j → (In (of_all f c) j → (m : ℕ) × In c m × In (f m) j) → (m : ℕ) × In (x ∷ c) m × In (f m) j
    go (inl g) rec = (x, inl refl, g)
    go (inr g) rec = let r = rec g in (r.0, inr r.1, r.2)

module _ (t : Table) (good : Good t) (r : Request) where
  abbrev N : NameTable
  N = t.names

  abbrev sheet : List ℕ
  sheet = sheet_of N

  order : List ℕ
  order = (sheet_ended N good.names).order

  exact : Exact N sheet
  exact = sheet_exact N good.names

  gives : GivesAll N order
  unfolding order
  gives =
      let e = sheet_ended N good.names in
      record { ordered = e.filling.ordered; none_twice = e.filling.none_twice; all = rest_listed N good.names sheet e.order e.filling e.rest }

  -- ---- what each record goes through
  binding_numbers : ℕ → List ℕ
  binding_numbers i = of_record (λ x. target_numbers N sheet x.target) (get_elem? N.bindings i)

  access_numbers : ℕ → List ℕ
  access_numbers i = of_record (λ x. name_numbers N sheet x.owner x.path) (get_elem? t.accesses i)

  delegation_numbers : ℕ → List ℕ
  delegation_numbers j = of_record (λ x. name_numbers N sheet x.writer x.owner_path ++ name_numbers N sheet x.writer x.delegatee_path) (get_elem? t.delegations j)

  through_number : (i : ℕ) (x : Binding) → At N.bindings i x → (j : ℕ) → TargetThrough N x.target j → In (binding_numbers i) j
  unfolding binding_numbers
  through_number i x a j w = rw (of_at N.bindings (λ x. target_numbers N sheet x.target) i x a) ((target_numbers_lem N good.names sheet exact x.target j).1 w)

  number_through : (i j : ℕ) → In (binding_numbers i) j → (x : Binding) × At N.bindings i x × TargetThrough N x.target j
  unfolding binding_numbers
  number_through i j h =
      let w = at_of N.bindings (λ x. target_numbers N sheet x.target) i j h in
      (w.0, w.1, (target_numbers_lem N good.names sheet exact w.0.target j).0 w.2)

  -- A listed binding goes through those before it alone.
  earlier : (B L : List ℕ) → ((j : ℕ) → In B j → In L j → ⊥) → NoneTwice L → OrderedAfter N B L → Earlier binding_numbers L
  earlier B [] apart tw o = tt
  earlier B (i ∷ L) apart tw o = (self_or_later, earlier (B ▷ i) L (λ j h m. go j (in_snoc B i j h) m) tw.1 o.1)
    where
      self_or_later : (j : ℕ) → In (binding_numbers i) j → In (i ∷ L) j → ⊥
      self_or_later j h m =
          let w = number_through i j h in
          let e = ap (λ (x : Binding). x.target) (at_one w.1 o.0.at) in
          apart j (target_means_listed N good.names B o.0.binding.target o.0.key o.0.means j (subst (λ (g : Target). TargetThrough N g j) e w.2)) m

      go : (j : ℕ) → In B j ⊎ (i ≡ j) → In L j → ⊥
      go j (inl h) m = apart j h (inr m)
      go j (inr e) m = tw.0 (rw (← e) at m)

  -- ---- the derivation of a chain
  module _ (i : ℕ) (c : List ℕ) where
    wanted : List ℕ
    wanted = target_numbers N sheet r.subject ++ (access_numbers i ++ of_all delegation_numbers c)

    needed : List ℕ
    needed = wants binding_numbers wanted order

    derivation : Derivation
    derivation = record { bindings = keep (among needed) order; access = i; delegations = c }

    pass : (j : ℕ) → In wanted j → among needed j ≡ true
    unfolding needed
    pass j h = (among_in needed j).1 (wants_more binding_numbers wanted order j h)

    covers : Covers t r i c order (among needed)
    unfolding wanted access_numbers delegation_numbers needed
    covers = record {
      by_subject = λ j w. pass j (in_left (target_numbers N sheet r.subject) (access_numbers i ++ of_all delegation_numbers c) j ((target_numbers_lem N good.names sheet exact r.subject j).1 w));
      by_bindings = λ m x l f a j w. (among_in needed j).1
          (wants_closed binding_numbers wanted order (earlier [] order (λ j b. absurd b) gives.none_twice gives.ordered) m l ((among_in needed m).0 f) j (through_number m x a j w));
      by_access = λ x a j w. pass j (in_right (target_numbers N sheet r.subject) (access_numbers i ++ of_all delegation_numbers c) j
          (in_left (access_numbers i) (of_all delegation_numbers c) j (rw (of_at t.accesses (λ x. name_numbers N sheet x.owner x.path) i x a) ((name_numbers_lem N good.names sheet exact x.owner x.path j).1 w))));
      by_owner_path = λ m x h a j w. pass j (in_chain j (in_all delegation_numbers c m j h (rw (delegation m x a)
          (in_left (name_numbers N sheet x.writer x.owner_path) (name_numbers N sheet x.writer x.delegatee_path) j ((name_numbers_lem N good.names sheet exact x.writer x.owner_path j).1 w)))));
      by_delegatee_path = λ m x h a j w. pass j (in_chain j (in_all delegation_numbers c m j h (rw (delegation m x a)
          (in_right (name_numbers N sheet x.writer x.owner_path) (name_numbers N sheet x.writer x.delegatee_path) j ((name_numbers_lem N good.names sheet exact x.writer x.delegatee_path j).1 w)))));
    }
      where
        in_chain : (j : ℕ) → In (of_all delegation_numbers c) j → In wanted j
        in_chain j h = in_right (target_numbers N sheet r.subject) (access_numbers i ++ of_all delegation_numbers c) j (in_right (access_numbers i) (of_all delegation_numbers c) j h)

        delegation : (m : ℕ) (x : Delegation) → At t.delegations m x
            → delegation_numbers m ≡ name_numbers N sheet x.writer x.owner_path ++ name_numbers N sheet x.writer x.delegatee_path
        delegation m x a = of_at t.delegations (λ x. name_numbers N sheet x.writer x.owner_path ++ name_numbers N sheet x.writer x.delegatee_path) m x a

    -- Whatever is listed is used.
    none_idle_lem : NoneIdle t r derivation
    unfolding wanted access_numbers delegation_numbers needed derivation
    none_idle_lem j h = why (wants_why binding_numbers wanted order j ((among_in needed j).0 ((keep_in (among needed) order j).0 h).1))
      where
        from_delegation : (m : ℕ) → In c m → In (delegation_numbers m) j → Used t r derivation j
        from_delegation m l g = go (at_of t.delegations (λ x. name_numbers N sheet x.writer x.owner_path ++ name_numbers N sheet x.writer x.delegatee_path) m j g)
          where
            go : (x : Delegation) × At t.delegations m x × In (name_numbers N sheet x.writer x.owner_path ++ name_numbers N sheet x.writer x.delegatee_path) j → Used t r derivation j
            go w = split (in_either (name_numbers N sheet w.0.writer w.0.owner_path) (name_numbers N sheet w.0.writer w.0.delegatee_path) j w.2)
              where
                split : In (name_numbers N sheet w.0.writer w.0.owner_path) j ⊎ In (name_numbers N sheet w.0.writer w.0.delegatee_path) j → Used t r derivation j
                split (inl n) = by_owner_path l w.1 ((name_numbers_lem N good.names sheet exact w.0.writer w.0.owner_path j).0 n)
                split (inr n) = by_delegatee_path l w.1 ((name_numbers_lem N good.names sheet exact w.0.writer w.0.delegatee_path j).0 n)

        from_chain : In (access_numbers i) j ⊎ In (of_all delegation_numbers c) j → Used t r derivation j
        from_chain (inl g) =
            let w = at_of t.accesses (λ x. name_numbers N sheet x.owner x.path) i j g in
            by_access w.1 ((name_numbers_lem N good.names sheet exact w.0.owner w.0.path j).0 w.2)
        from_chain (inr g) = let w = all_in delegation_numbers c j g in from_delegation w.0 w.1 w.2

        from_wanted : In (target_numbers N sheet r.subject) j ⊎ In (access_numbers i ++ of_all delegation_numbers c) j → Used t r derivation j
        from_wanted (inl g) = by_subject ((target_numbers_lem N good.names sheet exact r.subject j).0 g)
        from_wanted (inr g) = from_chain (in_either (access_numbers i) (of_all delegation_numbers c) j g)

        why : In wanted j ⊎ WantedBy binding_numbers needed order j → Used t r derivation j
        why (inl g) = from_wanted (in_either (target_numbers N sheet r.subject) (access_numbers i ++ of_all delegation_numbers c) j g)
        why (inr g) =
            let w = number_through g.by j g.through in
            by_binding ((keep_in (among needed) order g.by).1 (g.listed, (among_in needed g.by).1 g.wanted)) w.1 w.2

  -- EVERY GRANT AT THE GREATEST DEPTH IS SHOWN.
  pub has_shown : (d : ℕ) (k : Key) → TargetMeans N r.subject k → Has (setting t r.asked) k (granted d) → Shown t r d
  unfolding derivation
  has_shown d k m h = go (top_grant h d refl)
    where
      Top : ℕ → Type 0
      Top e = Granted (setting t r.asked) k e × ((f : ℕ) → Granted (setting t r.asked) k f → f ≤ e)

      top_grant : {v : Verdict} → Has (setting t r.asked) k v → (e : ℕ) → v ≡ granted e → Top e
      top_grant (greatest {d = f} g most) e q = let w : f ≡ e = cc in subst (λ (x : ℕ). Top x) w (g, most)
      top_grant (Has.nothing n) e q = let z : ◌≡◌ {A = ℕ} 0 1 = cc in absurd (omega arith)

      go : Top d → Shown t r d
      go w = shown (access→chain (setting t r.asked) fits w.0.access)
        where
          shown : (i : ℕ) × (c : List ℕ) × (e : ℕ) × Chain (setting t r.asked) i c w.0.name e × (d ≤ e) → Shown t r d
          shown s = exactly s.0 s.1 s.2 s.3 (le_antisymm (w.1 s.2 (record { name = w.0.name; access = chain→access (setting t r.asked) fits s.3; means = w.0.means })) s.4)
            where
              exactly : (i : ℕ) (c : List ℕ) (e : ℕ) → Chain (setting t r.asked) i c w.0.name e → e ≡ d → Shown t r d
              exactly i c e ch q = record {
                derivation = derivation i c;
                holds = subst (λ (f : ℕ). Holds t r (derivation i c) f) q (covered_holds t good.names order gives (among (needed i c)) r i c (covers i c) k m w.0.name e ch w.0.means);
                none_idle = none_idle_lem i c;
                short = omega (arith, chain_short (setting t r.asked) (λ i d n x. (good.accesses i _ x.at).depth) ch);
              }

  pub grant_shown : (d : ℕ) → Decides t r (granted d) → Shown t r d
  grant_shown d x = go x refl
    where
      go : {v : Verdict} → Decides t r v → v ≡ granted d → Shown t r d
      go (named {k = k} m h) e = has_shown d k m (subst (λ (v : Verdict). Has (setting t r.asked) k v) e h)
      go (means_nothing n) e = let z : ◌≡◌ {A = ℕ} 0 1 = cc in absurd (omega arith)
