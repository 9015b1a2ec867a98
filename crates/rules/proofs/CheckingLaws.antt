-- The computed check accepts exactly the derivations that hold, at their depth.
use mathlib.Core.Path.{◌≡◌, refl, sym, ap, subst}
use mathlib.Core.Bool.{Bool, true, false, ◌&&◌, false≢true}
use mathlib.Core.Logic.{◌⊎◌, inl, inr, ◌↔◌}
use mathlib.Core.List.{List, [], ◌∷◌, ◌++◌, append_assoc, append-nil}
use mathlib.Core.Option.{Option, some, bind-eq-some_iff, some-injective}
use Prim.Native.Nat.{ℕ, zero, suc, ◌<◌, ◌≤◌}
use native.Mathlib.Nat.{zero-lt-suc}
use native.Mathlib.Omega.{arith}
use borrow.Author.Tests.{eqb-true, eq-eqb}
use lib.Dec.{eqb}
use lib.ListN.{length, get_elem?, set, replicate, length-set, length-replicate, get_or-replicate}
use Rattle.rules.specs.Lists.{At, ◌▷◌, In, NoneTwice}
use Rattle.rules.specs.Depths.{Step, step_code}
use Rattle.rules.specs.Tables.{Path, Target, to_name, Binding, AccessRecord, Delegation, NameTable, Table, Asked, Request}
use Rattle.rules.specs.Names.{Means, TargetMeans}
use Rattle.rules.specs.Ranges.{GoodNames}
use Rattle.rules.specs.Sheets.{entry}
use Rattle.rules.specs.Following.{InSheet, TargetLeads}
use Rattle.rules.specs.Filling.{Filling}
use Rattle.rules.specs.Rounds.{target_key}
use Rattle.rules.specs.Access.{Setting, Name, Chain, Lists, Writes, setting_by}
use Rattle.rules.specs.Derivations.{Derivation, only, OrderedAfter, Holds}
use Rattle.rules.specs.Checking.{provided, depth_of, entered, Reach, root_reach, wrote_reach, name_key, gone_on, holds_at}
use Rattle.rules.specs.declared.Key.{Key}
use Rattle.rules.specs.declared.Space.{Space}
use Rattle.rules.proofs.ListsLaws.{some_at, at_some, in_snoc, in_left, in_last}
use Rattle.rules.proofs.SheetsLaws.{filling_start, filling_step, filling_leads}
use Rattle.rules.proofs.RoundsLaws.{target_leads}
use Rattle.rules.proofs.DepthsLaws.{code_of_step, step_of_code}
use Rattle.rules.proofs.AccessLaws.{Goes, chain→goes, goes→chain}

provided_some : {A : Type 0} (b : Bool) (o : Option A) (x : A) → (provided b o ≡ some x) ↔ ((b ≡ true) × (o ≡ some x))
provided_some true o x = (λ e. (refl, e), λ h. h.1)
provided_some false o x = (λ e. let z : ◌≡◌ {A = ℕ} 0 1 = cc in absurd (omega arith), λ h. absurd (false≢true h.0))

both : (a b : Bool) → (a && b ≡ true) ↔ ((a ≡ true) × (b ≡ true))
both true b = (λ e. (refl, e), λ h. h.1)
both false b = (λ e. absurd (false≢true e), λ h. absurd (false≢true h.0))

same : (a b : ℕ) → (eqb a b ≡ true) ↔ (a ≡ b)
same a b = (eqb-true a b, eq-eqb a b)

depth_of_step : (a d r : ℕ) → (depth_of (step_code (suc a) d) ≡ some r) ↔ Step a d r
depth_of_step a d r = (to, λ s. rw (code_of_step a d r s))
  where
    to : depth_of (step_code (suc a) d) ≡ some r → Step a d r
    to e = go (step_code (suc a) d) refl e
      where
        go : (c : ℕ) → step_code (suc a) d ≡ c → depth_of c ≡ some r → Step a d r
        go zero f g = let z : ◌≡◌ {A = ℕ} 0 1 = cc in absurd (omega arith)
        go (suc x) f g =
            let q : x ≡ r = cc in
            let s = step_of_code (suc a) d x f in
            let h : a ≡ s.0 = omega (arith, s.1) in
            subst (λ (y : ℕ). Step a d y) q (rw h s.2)

module _ (t : NameTable) (good : GoodNames t) where
  -- ---- the listed bindings are entered, if they are ordered and none stands twice
  -- `L` may be listed after `B`: ordered after it, and none twice.
  record After (B L : List ℕ) : Type 0 where
    pub ordered : OrderedAfter t B L
    pub apart : (i : ℕ) → In L i → In B i → ⊥
    pub none_twice : NoneTwice L

  -- The sheet of the bindings `L`.
  pub record SheetOf (sheet L : List ℕ) : Type 0 where
    pub filling : Filling t sheet L
    pub fits : length t.bindings ≤ length sheet

  entered_sheet : (sheet B L : List ℕ) → SheetOf sheet B → (sheet' : List ℕ) → entered t sheet L ≡ some sheet' → SheetOf sheet' (B ++ L) × After B L
  unfolding entered
  entered_sheet sheet B [] f sheet' e = let q : sheet ≡ sheet' = cc in (rw (append-nil, ← q) f, record { ordered = tt; apart = λ i m. absurd m; none_twice = tt })
  entered_sheet sheet B (i ∷ L) f sheet' e =
      let a = (provided_some (eqb (entry sheet i) 0) _ sheet').0 e in
      let b = (bind-eq-some_iff (get_elem? t.bindings i) _).0 a.1 in
      let c = (bind-eq-some_iff (target_key t sheet b.0.target) (λ k. entered t (set sheet i k.0) L)).0 b.2 in
      go b.0 c.0 (eqb-true (entry sheet i) 0 a.0) (some_at t.bindings i b.0 b.1) ((target_leads t good sheet b.0.target c.0).0 c.1)
      (λ s. entered_sheet (set sheet i c.0.0) (B ▷ i) L s sheet' c.2)
    where
      go : (x : Binding) (k : Key) → entry sheet i ≡ 0 → At t.bindings i x → TargetLeads t (InSheet t sheet) x.target k
          → (SheetOf (set sheet i k.0) (B ▷ i) → SheetOf sheet' ((B ▷ i) ++ L) × After (B ▷ i) L) → SheetOf sheet' (B ++ (i ∷ L)) × After B (i ∷ L)
      go x k z at v rec =
          let fits : i < length sheet = omega (arith, at.there, f.fits) in
          let r = rec (record { filling = filling_step t good sheet B f.filling i x k at fits z v; fits = omega (arith, length-set sheet i k.0, f.fits) }) in (
            subst (λ (M : List ℕ). SheetOf sheet' M) (append_assoc B (i ∷ []) L) r.0,
            record {
              ordered = (record { binding = x; at = at; key = k; means = (filling_leads t good sheet B f.filling x.target k).0 v }, r.1.ordered);
              apart = λ j m h. apart j m h r.1.apart;
              none_twice = (λ m. r.1.apart i m (in_last B i), r.1.none_twice);
            },
          )
        where
          apart : (j : ℕ) → (i ≡ j) ⊎ In L j → In B j → ((j : ℕ) → In L j → In (B ▷ i) j → ⊥) → ⊥
          apart j (inl e) h rest = omega (arith, f.filling.filled i (rw (← e) at h))
          apart j (inr m) h rest = rest j m (in_left B (i ∷ []) j h)

  sheet_entered : (sheet B L : List ℕ) → SheetOf sheet B → After B L → (sheet' : List ℕ) × (entered t sheet L ≡ some sheet')
  unfolding entered
  sheet_entered sheet B [] f o = (sheet, refl)
  sheet_entered sheet B (i ∷ L) f o = go ((filling_leads t good sheet B f.filling o.ordered.0.binding.target o.ordered.0.key).1 o.ordered.0.means) (zeros (entry sheet i) refl)
      (λ s. sheet_entered (set sheet i o.ordered.0.key.0) (B ▷ i) L s (record { ordered = o.ordered.1; apart = λ j m h. later j m h; none_twice = o.none_twice.1 }))
    where
      later : (j : ℕ) → In L j → In (B ▷ i) j → ⊥
      later j m h = split (in_snoc B i j h)
        where
          split : In B j ⊎ (i ≡ j) → ⊥
          split (inl b) = o.apart j (inr m) b
          split (inr e) = o.none_twice.0 (rw (← e) at m)

      zeros : (n : ℕ) → entry sheet i ≡ n → entry sheet i ≡ 0
      zeros zero e = e
      zeros (suc n) e = absurd (o.apart i (inl refl) (f.filling.listed i o.ordered.0.at.there (rw e (zero-lt-suc n))))

      go : TargetLeads t (InSheet t sheet) o.ordered.0.binding.target o.ordered.0.key → entry sheet i ≡ 0
          → (SheetOf (set sheet i o.ordered.0.key.0) (B ▷ i) → (sheet' : List ℕ) × (entered t (set sheet i o.ordered.0.key.0) L ≡ some sheet'))
          → (sheet' : List ℕ) × (entered t sheet (i ∷ L) ≡ some sheet')
      go v z rec =
          let x = o.ordered.0.binding in
          let k = o.ordered.0.key in
          let at = o.ordered.0.at in
          let r = rec (record { filling = filling_step t good sheet B f.filling i x k at (omega (arith, at.there, f.fits)) z v; fits = omega (arith, length-set sheet i k.0, f.fits) }) in (
            r.0,
            (provided_some (eqb (entry sheet i) 0) _ r.0).1 (
              eq-eqb (entry sheet i) 0 z,
              (bind-eq-some_iff (get_elem? t.bindings i) _).1 (x, at_some at, (bind-eq-some_iff (target_key t sheet x.target) (λ k. entered t (set sheet i k.0) L)).1 (k, (target_leads t good sheet x.target k).1 v, r.1)),
            ),
          )

-- ---- the chain
module _ (t : Table) (good : GoodNames t.names) (q : Asked Space) where
  root_reach_lem : (i : ℕ) (s : Reach) → (root_reach t q i ≡ some s) ↔ Lists t q i s.name s.depth
  unfolding root_reach
  root_reach_lem i s = (to, from)
    where
      fits : (x : AccessRecord) → At t.accesses i x → eqb x.owner.0 q.owner.0 && (eqb x.object q.object && eqb x.right q.right) ≡ true
          → record { name = record { space = x.owner; path = x.path }; depth = x.depth } ≡ s → Lists t q i s.name s.depth
      fits x a e f =
          let w = (both (eqb x.owner.0 q.owner.0) _).0 e in
          let u = (both (eqb x.object q.object) (eqb x.right q.right)).0 w.1 in
          let owner : x.owner ≡ q.owner = λ d. record { 0 = eqb-true x.owner.0 q.owner.0 w.0 d } in
          subst (λ (z : Reach). Lists t q i z.name z.depth) f record {
            of_owner = owner;
            at = subst (λ (z : AccessRecord). At t.accesses i z)
                (λ d. record { owner = owner d; object = eqb-true x.object q.object u.0 d; right = eqb-true x.right q.right u.1 d; path = x.path; depth = x.depth }) a;
          }

      to : root_reach t q i ≡ some s → Lists t q i s.name s.depth
      to e =
          let a = (bind-eq-some_iff (get_elem? t.accesses i) _).0 e in
          let b = (provided_some _ _ s).0 a.2 in
          fits a.0 (some_at t.accesses i a.0 a.1) b.0 (some-injective _ s b.1)

      from : Lists t q i s.name s.depth → root_reach t q i ≡ some s
      from l = (bind-eq-some_iff (get_elem? t.accesses i) _).1 (
        record { owner = q.owner; object = q.object; right = q.right; path = s.name.path; depth = s.depth },
        at_some l.at,
        (provided_some _ _ s).1 (
          (both (eqb q.owner.0 q.owner.0) _).1 (eq-eqb q.owner.0 q.owner.0 refl, (both (eqb q.object q.object) _).1 (eq-eqb q.object q.object refl, eq-eqb q.right q.right refl)),
          ap some (λ d. record { name = record { space = sym l.of_owner d; path = s.name.path }; depth = s.depth }),
        ),
      )

  module _ (sheet L : List ℕ) (f : Filling t.names sheet L) where
    abbrev M : Space → Path → Key → Type 0
    M = Means (only t.names L)

    abbrev Y : Setting
    Y = setting_by M t q

    key_told : (g : Target) (k : Key) → (target_key t.names sheet g ≡ some k) ↔ TargetMeans (only t.names L) g k
    key_told g k =
        let a = target_leads t.names good sheet g k in
        let b = filling_leads t.names good sheet L f g k in
        (λ e. b.0 (a.0 e), λ m. a.1 (b.1 m))

    name_told : (n : Name) (k : Key) → (name_key t.names sheet n ≡ some k) ↔ M n.space n.path k
    unfolding name_key
    name_told n k = key_told (to_name n.space n.path) k

    wrote_reach_lem : (j : ℕ) (k : Key) (w : Reach) → (wrote_reach t sheet q j k ≡ some w) ↔ Writes M t q j k w.name w.depth
    unfolding wrote_reach
    wrote_reach_lem j k w = (to, from)
      where
        fits : (x : Delegation) (writer owner named : Key) → At t.delegations j x → At t.names.spaces x.writer.0 writer → At t.names.spaces q.owner.0 owner
            → M x.writer x.owner_path named → eqb writer.0 k.0 && (eqb named.0 owner.0 && (eqb x.object q.object && eqb x.right q.right)) ≡ true
            → record { name = record { space = x.writer; path = x.delegatee_path }; depth = x.depth } ≡ w → Writes M t q j k w.name w.depth
        fits x writer owner named a b c m e g =
            let u = (both (eqb writer.0 k.0) _).0 e in
            let v = (both (eqb named.0 owner.0) _).0 u.1 in
            let z = (both (eqb x.object q.object) (eqb x.right q.right)).0 v.1 in
            subst (λ (y : Reach). Writes M t q j k y.name y.depth) g record {
              is_self = record { at = subst (λ (y : Key). At t.names.spaces x.writer.0 y) (λ d. record { 0 = eqb-true writer.0 k.0 u.0 d }) b };
              owner_path = x.owner_path;
              at = subst (λ (y : Delegation). At t.delegations j y)
                  (λ d. record {
                    writer = x.writer;
                    owner_path = x.owner_path;
                    object = eqb-true x.object q.object z.0 d;
                    right = eqb-true x.right q.right z.1 d;
                    delegatee_path = x.delegatee_path;
                    depth = x.depth;
                  }) a;
              owner_key = owner;
              owner_self = record { at = c };
              owner_means = subst (λ (y : Key). M x.writer x.owner_path y) (λ d. record { 0 = eqb-true named.0 owner.0 v.0 d }) m;
            }

        to : wrote_reach t sheet q j k ≡ some w → Writes M t q j k w.name w.depth
        to e =
            let a = (bind-eq-some_iff (get_elem? t.delegations j) _).0 e in
            let b = (bind-eq-some_iff (get_elem? t.names.spaces a.0.writer.0) _).0 a.2 in
            let c = (bind-eq-some_iff (get_elem? t.names.spaces q.owner.0) _).0 b.2 in
            let d = (bind-eq-some_iff (target_key t.names sheet (to_name a.0.writer a.0.owner_path)) _).0 c.2 in
            let p = (provided_some _ _ w).0 d.2 in
            fits a.0 b.0 c.0 d.0 (some_at t.delegations j a.0 a.1) (some_at t.names.spaces a.0.writer.0 b.0 b.1) (some_at t.names.spaces q.owner.0 c.0 c.1)
            ((key_told (to_name a.0.writer a.0.owner_path) d.0).0 d.1) p.0 (some-injective _ w p.1)

        from : Writes M t q j k w.name w.depth → wrote_reach t sheet q j k ≡ some w
        from x = (bind-eq-some_iff (get_elem? t.delegations j) _).1 (
          record { writer = w.name.space; owner_path = x.owner_path; object = q.object; right = q.right; delegatee_path = w.name.path; depth = w.depth },
          at_some x.at,
          (bind-eq-some_iff (get_elem? t.names.spaces w.name.space.0) _).1 (
            k,
            at_some x.is_self.at,
            (bind-eq-some_iff (get_elem? t.names.spaces q.owner.0) _).1 (
              x.owner_key,
              at_some x.owner_self.at,
              (bind-eq-some_iff (target_key t.names sheet (to_name w.name.space x.owner_path)) _).1 (
                x.owner_key,
                (key_told (to_name w.name.space x.owner_path) x.owner_key).1 x.owner_means,
                (provided_some _ _ w).1 (
                  (both (eqb k.0 k.0) _).1 (
                    eq-eqb k.0 k.0 refl,
                    (both (eqb x.owner_key.0 x.owner_key.0) _).1 (
                      eq-eqb x.owner_key.0 x.owner_key.0 refl,
                      (both (eqb q.object q.object) _).1 (eq-eqb q.object q.object refl, eq-eqb q.right q.right refl),
                    ),
                  ),
                  refl,
                ),
              ),
            ),
          ),
        )

    goes_on : (c : List ℕ) (s e : Reach) → (gone_on t sheet q s c ≡ some e) ↔ Goes Y s.name s.depth c e.name e.depth
    unfolding gone_on
    goes_on [] s e = (λ h. let u : s ≡ e = cc in (ap (λ (y : Reach). y.name) u, ap (λ (y : Reach). y.depth) u), λ h. ap some (λ d. record { name = h.0 d; depth = h.1 d }))
    goes_on (j ∷ c) s e = (to (λ s. (goes_on c s e).0), from (λ s. (goes_on c s e).1))
      where
        to : ((s : Reach) → gone_on t sheet q s c ≡ some e → Goes Y s.name s.depth c e.name e.depth) → gone_on t sheet q s (j ∷ c) ≡ some e → Goes Y s.name s.depth (j ∷ c) e.name e.depth
        to rec h =
            let a = (bind-eq-some_iff (name_key t.names sheet s.name) _).0 h in
            let b = (bind-eq-some_iff (wrote_reach t sheet q j a.0) _).0 a.2 in
            let d = (bind-eq-some_iff (depth_of (step_code (suc s.depth) b.0.depth)) _).0 b.2 in (
              a.0,
              b.0.name,
              b.0.depth,
              d.0,
              (name_told s.name a.0).0 a.1,
              (wrote_reach_lem j a.0 b.0).0 b.1,
              (depth_of_step s.depth b.0.depth d.0).0 d.1,
              rec (record { name = b.0.name; depth = d.0 }) d.2,
            )

        from : ((s : Reach) → Goes Y s.name s.depth c e.name e.depth → gone_on t sheet q s c ≡ some e) → Goes Y s.name s.depth (j ∷ c) e.name e.depth
            → gone_on t sheet q s (j ∷ c) ≡ some e
        from rec g = (bind-eq-some_iff (name_key t.names sheet s.name) _).1 (
          g.0,
          (name_told s.name g.0).1 g.4,
          (bind-eq-some_iff (wrote_reach t sheet q j g.0) _).1 (
            record { name = g.1; depth = g.2 },
            (wrote_reach_lem j g.0 (record { name = g.1; depth = g.2 })).1 g.5,
            (bind-eq-some_iff (depth_of (step_code (suc s.depth) g.2)) _).1 (
              g.3,
              (depth_of_step s.depth g.2 g.3).1 g.6,
              rec (record { name = g.1; depth = g.3 }) g.7,
            ),
          ),
        )

-- THE COMPUTED CHECK ACCEPTS EXACTLY WHAT HOLDS.
module _ (t : Table) (good : GoodNames t.names) (r : Request) (v : Derivation) where
  abbrev zeroes : List ℕ
  zeroes = replicate (length t.names.bindings) 0

  blank : SheetOf t.names good zeroes []
  blank = record {
    filling = filling_start t.names zeroes (λ i h. get_or-replicate {A = ℕ} (length t.names.bindings) i 0 0 h);
    fits = omega (arith, length-replicate {A = ℕ} (length t.names.bindings) 0);
  }

  check_holds : (d : ℕ) → holds_at t r v ≡ some d → Holds t r v d
  unfolding holds_at
  check_holds d h =
      let a = (bind-eq-some_iff (entered t.names zeroes v.bindings) _).0 h in
      let s = entered_sheet t.names good zeroes [] v.bindings blank a.0 a.1 in
      let f = s.0.filling in
      let b = (bind-eq-some_iff (target_key t.names a.0 r.subject) _).0 a.2 in
      let c = (bind-eq-some_iff (root_reach t r.asked v.access) _).0 b.2 in
      let g = (bind-eq-some_iff (gone_on t a.0 r.asked c.0 v.delegations) _).0 c.2 in
      let m = (bind-eq-some_iff (name_key t.names a.0 g.0.name) _).0 g.2 in
      let p = (provided_some (eqb m.0.0 b.0.0) _ d).0 m.2 in
      finish a.0 f s.1.ordered s.1.none_twice b.0 c.0 g.0 m.0
      ((key_told t good r.asked a.0 v.bindings f r.subject b.0).0 b.1) ((root_reach_lem t good r.asked v.access c.0).0 c.1)
      ((goes_on t good r.asked a.0 v.bindings f v.delegations c.0 g.0).0 g.1) ((name_told t good r.asked a.0 v.bindings f g.0.name m.0).0 m.1)
      (eqb-true m.0.0 b.0.0 p.0) (some-injective _ d p.1)
    where
      finish : (sheet : List ℕ) → Filling t.names sheet v.bindings → OrderedAfter t.names [] v.bindings → NoneTwice v.bindings → (k : Key) (s e : Reach) (m : Key)
          → TargetMeans (only t.names v.bindings) r.subject k → Lists t r.asked v.access s.name s.depth
          → Goes (setting_by (Means (only t.names v.bindings)) t r.asked) s.name s.depth v.delegations e.name e.depth
          → Means (only t.names v.bindings) e.name.space e.name.path m → m.0 ≡ k.0 → e.depth ≡ d → Holds t r v d
      finish sheet f o n k s e m subject root goes meets same depth = record {
        ordered = o;
        none_twice = n;
        key = k;
        subject = subject;
        last = e.name;
        chain = subst (λ (x : ℕ). Chain (setting_by (Means (only t.names v.bindings)) t r.asked) v.access v.delegations e.name x) depth
            (goes→chain (setting_by (Means (only t.names v.bindings)) t r.asked) v.access v.delegations e.name e.depth (s.name, s.depth, root, goes));
        meets = subst (λ (y : Key). Means (only t.names v.bindings) e.name.space e.name.path y) (λ z. record { 0 = same z }) meets;
      }

  holds_check : (d : ℕ) → Holds t r v d → holds_at t r v ≡ some d
  unfolding holds_at
  holds_check d h =
      let s = sheet_entered t.names good zeroes [] v.bindings blank (record { ordered = h.ordered; apart = λ i m b. b; none_twice = h.none_twice }) in
      let w = entered_sheet t.names good zeroes [] v.bindings blank s.0 s.1 in
      let f = w.0.filling in
      let g = chain→goes (setting_by (Means (only t.names v.bindings)) t r.asked) h.chain in
      (bind-eq-some_iff (entered t.names zeroes v.bindings) _).1 (
        s.0,
        s.1,
        (bind-eq-some_iff (target_key t.names s.0 r.subject) _).1 (
          h.key,
          (key_told t good r.asked s.0 v.bindings f r.subject h.key).1 h.subject,
          (bind-eq-some_iff (root_reach t r.asked v.access) _).1 (
            record { name = g.0; depth = g.1 },
            (root_reach_lem t good r.asked v.access (record { name = g.0; depth = g.1 })).1 g.2,
            (bind-eq-some_iff (gone_on t s.0 r.asked (record { name = g.0; depth = g.1 }) v.delegations) _).1 (
              record { name = h.last; depth = d },
              (goes_on t good r.asked s.0 v.bindings f v.delegations (record { name = g.0; depth = g.1 }) (record { name = h.last; depth = d })).1 g.3,
              (bind-eq-some_iff (name_key t.names s.0 h.last) _).1 (
                h.key,
                (name_told t good r.asked s.0 v.bindings f h.last h.key).1 h.meets,
                (provided_some (eqb h.key.0 h.key.0) _ d).1 (eq-eqb h.key.0 h.key.0 refl, refl),
              ),
            ),
          ),
        ),
      )

  pub check_right : (d : ℕ) → (holds_at t r v ≡ some d) ↔ Holds t r v d
  check_right d = (check_holds d, holds_check d)
