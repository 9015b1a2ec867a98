-- A record that stands in the table, read again by its number, and whether it is for the request.
use mathlib.Core.Path.{◌≡◌, refl, sym, ◌∙◌, ap, subst}
use mathlib.Core.List.{List, []}
use Prim.Native.Nat.{ℕ, ◌<◌, ◌≤◌}
use native.Mathlib.Omega.{arith}
use lib.ListN.{length, get_or}
use Rattle.std.specs.Prelude.{Option, Some, None, Result, Ok}
use Rattle.rules.specs.Lists.{At}
use Rattle.rules.specs.Tables.{Path, AccessRecord, Delegation, Table}
use Rattle.rules.specs.Ranges.{GoodPath, most_spaces}
use Rattle.rules.specs.Names.{IsSelf}
use Rattle.rules.specs.Following.{InSheet, NameLeads}
use Rattle.rules.specs.declared.Key.{Key}
use Rattle.rules.specs.declared.Space.{Space}
use Rattle.rules.proofs.ListsLaws.{at_one}
use Rattle.rules.proofs.NamesLaws.{self_one}
use Rattle.records.specs.Parsed.{got, Reader, found_as}
use Rattle.records.specs.Paths.{path_of, path_value}
use Rattle.records.specs.Accesses.{access_record, access_value}
use Rattle.records.specs.Delegations.{delegation_record, delegation_value}
use Rattle.records.specs.declared.faults.Fault.{Fault}
use Rattle.records.specs.declared.fields.Use.{Use}
use Rattle.records.specs.declared.paths.Path.{Path as PathValue}
use Rattle.records.specs.declared.accesses.Access.{Access}
use Rattle.records.specs.declared.delegations.Delegation.{Delegation as DelegationValue}
use Rattle.records.proofs.FormatLaws.{Walks}
use Rattle.records.proofs.RecordsForm.{access_walks, delegation_walks}
use Rattle.table.specs.ReadTable.{table_at}
use Rattle.table.specs.Kept.{Standing}
use Rattle.table.proofs.LoadingLaws.{rest, there_back}
use Rattle.table.proofs.FindingLaws.{at_below}
use Rattle.sheet.specs.Finds.{Finds, Fitting}
use Rattle.sheet.proofs.FindsLaws.{own_key, finds_key, finds_none, leads_one}
use Rattle.sheet.proofs.MeaningLaws.{path_fits, path_back, index_spaces}
use Rattle.matching.specs.Matching.{told, asked_of, GivesTo, HandsOn, Gives, to, not_given, Hands, on, not_handed}
use Rattle.matching.specs.Held.{Held}
use Rattle.matching.specs.Records.{HoldsAccess, HoldsDelegation}
use Rattle.matching.specs.declared.Given.{Given}
use Rattle.matching.specs.declared.Handed.{Handed}

-- ---- what was found
pub gives_to : {P : Key → ℕ → Type 0} {r : Option Given} {g : Given} → Gives P r → r ≡ Some g → P g.to g.depth.0
gives_to {P} {g = g} (to v w) e = let q : v ≡ g = cc in subst (λ (x : Given). P x.to x.depth.0) q w
gives_to (not_given f) e = let z : ◌≡◌ {A = ℕ} 0 1 = cc in absurd (omega arith)

pub gives_none : {P : Key → ℕ → Type 0} {r : Option Given} → Gives P r → r ≡ None → (k : Key) (d : ℕ) → P k d → ⊥
gives_none (to v w) e k d p = let z : ◌≡◌ {A = ℕ} 0 1 = cc in absurd (omega arith)
gives_none (not_given f) e k d p = f k d p

pub hands_on : {P : Space → Key → ℕ → Type 0} {r : Option Handed} {h : Handed} → Hands P r → r ≡ Some h → P h.writer h.to h.depth.0
hands_on {P} {h = h} (on v w) e = let q : v ≡ h = cc in subst (λ (x : Handed). P x.writer x.to x.depth.0) q w
hands_on (not_handed f) e = let z : ◌≡◌ {A = ℕ} 0 1 = cc in absurd (omega arith)

pub hands_none : {P : Space → Key → ℕ → Type 0} {r : Option Handed} → Hands P r → r ≡ None → (S : Space) (k : Key) (d : ℕ) → P S k d → ⊥
hands_none (on v w) e S k d p = let z : ◌≡◌ {A = ℕ} 0 1 = cc in absurd (omega arith)
hands_none (not_handed f) e S k d p = f S k d p

-- ---- a record by its number
pub stands_back : {A : Type 0} (P : Reader A) → Walks P → (s places : List ℕ) (l : List A) → Standing P s places l → (i : ℕ) (x : A) → At l i x
    → (n : ℕ) × (P (rest s (get_or places i 0)) 0 ≡ got x n)
stands_back P walks s places l w i x a =
    let r = w.stands i x a in
    there_back (λ e. P) (λ e. walks) s [] (get_or places i 0) (w.within i a.there) x r.0 r.1

-- ---- a path as code holds it
module _ (p : Path) (g : GoodPath p) (v : PathValue) (e : v ≡ path_value p) where
  fits_so : Fitting v
  fits_so = subst Fitting (sym e) (path_fits p g)

  leads_as : (t : Table) (sheet : List ℕ) (S : Space) (r : Option Key) → Finds (NameLeads t.names (InSheet t.names sheet) S (path_of v)) r → Finds (told t sheet S p) r
  leads_as t sheet S r w = subst (λ (q : Path). Finds (told t sheet S q) r) (ap path_of e ∙ path_back p g.short) w

-- ---- access records
module _ (s keys names accesses delegations : List ℕ) (held : Held s keys names accesses delegations) (i : ℕ) (h : i < length (table_at s).accesses) where
  pub x : AccessRecord
  x = (at_below (table_at s).accesses i h).0

  here : At (table_at s).accesses i x
  unfolding x
  here = (at_below (table_at s).accesses i h).1

  pub access_within : get_or accesses i 0 ≤ length s
  access_within = held.accesses.within i h

  pub access_place : i < length accesses
  access_place = omega (arith, held.access_count)

  -- The record is read where it stands.
  reads : (n : ℕ) × (access_record (length keys) (rest s (get_or accesses i 0)) 0 ≡ got x n)
  reads = stands_back (access_record (length keys)) (access_walks (length keys)) s accesses (table_at s).accesses held.accesses i x here

  pub access_read : {r : Result (Access × ℕ) Fault} → r ≡ found_as access_value (access_record (length keys) (rest s (get_or accesses i 0)) 0) → (n : ℕ) × (r ≡ Ok (access_value x, n))
  access_read e = let w = reads in (w.0, e ∙ ap (found_as access_value) w.1)

  -- And it is the one that the table has, and fits it.
  pub access_held : HoldsAccess (table_at s) (length keys) i (access_value x)
  access_held = record {
    entry = x;
    at = here;
    is = refl;
    owner = omega (arith, (held.good.accesses i x here).owner, index_spaces (table_at s).names keys names held.index);
    path = fits_so x.path (held.good.accesses i x here).path (path_value x.path) refl;
  }

  pub access_is : {r : Result (Access × ℕ) Fault} → r ≡ found_as access_value (access_record (length keys) (rest s (get_or accesses i 0)) 0) → (w : Access × ℕ) → r ≡ Ok w → HoldsAccess (table_at s) (length keys) i w.0
  access_is e w q =
      let a = access_read e in
      let t : ◌≡◌ {A = Result (Access × ℕ) Fault} (Ok (access_value x, a.0)) (Ok w) = sym a.1 ∙ q in
      let u : ◌≡◌ {A = Access × ℕ} (access_value x, a.0) w = cc t in
      subst (HoldsAccess (table_at s) (length keys) i) (ap (λ k. k.0) u) access_held

  module _ (v : Access) (holds : HoldsAccess (table_at s) (length keys) i v) where
    is : v ≡ access_value x
    is = holds.is ∙ ap access_value (at_one holds.at here)

    module _ (sheet : List ℕ) (owner : Space) (wanted : Use) where
      abbrev pub AccessGives : Option Given → Type 0
      AccessGives a = Gives (GivesTo (table_at s) sheet (asked_of owner wanted) i) a

      -- A record that fits what is asked would be this one.
      same : {k : Key} {d : ℕ} (w : GivesTo (table_at s) sheet (asked_of owner wanted) i k d) → x ≡ record { owner = owner; object = wanted.object; right = wanted.right; path = w.name.path; depth = d }
      same w = at_one here w.lists.at

      pub other_asked : (v.owner.0 ≡ owner.0 → v.wanted.object ≡ wanted.object → v.wanted.right ≡ wanted.right → ⊥) → AccessGives None
      other_asked f = not_given (λ k d w. f
          (ap (λ (y : Access). y.owner.0) is ∙ ap (λ (y : AccessRecord). y.owner.0) (same w))
          (ap (λ (y : Access). y.wanted.object) is ∙ ap (λ (y : AccessRecord). y.object) (same w))
          (ap (λ (y : Access). y.wanted.right) is ∙ ap (λ (y : AccessRecord). y.right) (same w)))

      module _ (a : Option Key) (end : Finds (NameLeads (table_at s).names (InSheet (table_at s).names sheet) v.owner (path_of v.path)) a) where
        leads : Finds (told (table_at s) sheet x.owner x.path) a
        leads =
            leads_as x.path (held.good.accesses i x here).path v.path (ap (λ (y : Access). y.path) is) (table_at s) sheet x.owner a
            (subst (λ (S : Space). Finds (NameLeads (table_at s).names (InSheet (table_at s).names sheet) S (path_of v.path)) a) (ap (λ (y : Access). y.owner) is) end)

        pub access_leads_nowhere : a ≡ None → AccessGives None
        access_leads_nowhere g =
            not_given (λ k d w. finds_none leads g k
            (subst (λ (y : AccessRecord). told (table_at s) sheet y.owner y.path k) (sym (same w)) (subst (λ (S : Space). told (table_at s) sheet S w.name.path k) w.lists.of_owner w.leads)))

        pub access_gives : (k : Key) → a ≡ Some k → v.owner.0 ≡ owner.0 → v.wanted.object ≡ wanted.object → v.wanted.right ≡ wanted.right → AccessGives (Some (record { to = k; depth = v.depth }))
        access_gives k g o b c = to (record { to = k; depth = v.depth }) (record { name = record { space = owner; path = x.path }; lists = record { of_owner = refl; at = at }; leads = from })
          where
            o' : x.owner ≡ owner
            o' = λ z. record { 0 = (sym (ap (λ (y : Access). y.owner.0) is) ∙ o) z }

            at : At (table_at s).accesses i (record { owner = owner; object = wanted.object; right = wanted.right; path = x.path; depth = v.depth.0 })
            at = subst (λ (y : AccessRecord). At (table_at s).accesses i y)
                (λ z. record {
                  owner = o' z;
                  object = (sym (ap (λ (y : Access). y.wanted.object) is) ∙ b) z;
                  right = (sym (ap (λ (y : Access). y.wanted.right) is) ∙ c) z;
                  path = x.path;
                  depth = sym (ap (λ (y : Access). y.depth.0) is) z;
                }) here

            from : told (table_at s) sheet owner x.path k
            from = subst (λ (S : Space). told (table_at s) sheet S x.path k) o' (finds_key leads g)

-- ---- delegations
module _ (s keys names accesses delegations : List ℕ) (held : Held s keys names accesses delegations) (j : ℕ) (h : j < length (table_at s).delegations) where
  pub y : Delegation
  y = (at_below (table_at s).delegations j h).0

  there : At (table_at s).delegations j y
  unfolding y
  there = (at_below (table_at s).delegations j h).1

  pub delegation_within : get_or delegations j 0 ≤ length s
  delegation_within = held.delegations.within j h

  pub delegation_place : j < length delegations
  delegation_place = omega (arith, held.delegation_count)

  -- The delegation is read where it stands.
  read : (n : ℕ) × (delegation_record (length keys) (rest s (get_or delegations j 0)) 0 ≡ got y n)
  read = stands_back (delegation_record (length keys)) (delegation_walks (length keys)) s delegations (table_at s).delegations held.delegations j y there

  pub delegation_read : {r : Result (DelegationValue × ℕ) Fault} → r ≡ found_as delegation_value (delegation_record (length keys) (rest s (get_or delegations j 0)) 0) → (n : ℕ) × (r ≡ Ok (delegation_value y, n))
  delegation_read e = let w = read in (w.0, e ∙ ap (found_as delegation_value) w.1)

  -- And it is the one that the table has, and fits it.
  pub delegation_held : HoldsDelegation (table_at s) (length keys) j (delegation_value y)
  delegation_held = record {
    entry = y;
    at = there;
    is = refl;
    writer = omega (arith, (held.good.delegations j y there).writer, index_spaces (table_at s).names keys names held.index);
    owner = fits_so y.owner_path (held.good.delegations j y there).owner_path (path_value y.owner_path) refl;
    delegatee = fits_so y.delegatee_path (held.good.delegations j y there).delegatee_path (path_value y.delegatee_path) refl;
  }

  pub delegation_is : {r : Result (DelegationValue × ℕ) Fault} → r ≡ found_as delegation_value (delegation_record (length keys) (rest s (get_or delegations j 0)) 0) → (w : DelegationValue × ℕ) → r ≡ Ok w
      → HoldsDelegation (table_at s) (length keys) j w.0
  delegation_is e w q =
      let a = delegation_read e in
      let t : ◌≡◌ {A = Result (DelegationValue × ℕ) Fault} (Ok (delegation_value y, a.0)) (Ok w) = sym a.1 ∙ q in
      let u : ◌≡◌ {A = DelegationValue × ℕ} (delegation_value y, a.0) w = cc t in
      subst (HoldsDelegation (table_at s) (length keys) j) (ap (λ k. k.0) u) delegation_held

  module _ (v : DelegationValue) (holds : HoldsDelegation (table_at s) (length keys) j v) where
    its : v ≡ delegation_value y
    its = holds.is ∙ ap delegation_value (at_one holds.at there)

    module _ (sheet : List ℕ) (owner : Space) (wanted : Use) where
      abbrev pub DelegationHands : Option Handed → Type 0
      DelegationHands a = Hands (HandsOn (table_at s) sheet (asked_of owner wanted) j) a

      -- A delegation that fits what is asked would be this one.
      one : {S : Space} {k : Key} {d : ℕ} (w : HandsOn (table_at s) sheet (asked_of owner wanted) j S k d)
          → y ≡ record { writer = S; owner_path = w.writes.owner_path; object = wanted.object; right = wanted.right; delegatee_path = w.path; depth = d }
      one w = at_one there w.writes.at

      pub for_other : (v.wanted.object ≡ wanted.object → v.wanted.right ≡ wanted.right → ⊥) → DelegationHands None
      for_other f = not_handed (λ S k d w. f
          (ap (λ (u : DelegationValue). u.wanted.object) its ∙ ap (λ (u : Delegation). u.object) (one w))
          (ap (λ (u : DelegationValue). u.wanted.right) its ∙ ap (λ (u : Delegation). u.right) (one w)))

      module _ (a : Option Key) (end : Finds (NameLeads (table_at s).names (InSheet (table_at s).names sheet) v.writer (path_of v.owner)) a) where
        owner_leads : Finds (told (table_at s) sheet y.writer y.owner_path) a
        owner_leads =
            leads_as y.owner_path (held.good.delegations j y there).owner_path v.owner (ap (λ (u : DelegationValue). u.owner) its) (table_at s) sheet y.writer a
            (subst (λ (S : Space). Finds (NameLeads (table_at s).names (InSheet (table_at s).names sheet) S (path_of v.owner)) a) (ap (λ (u : DelegationValue). u.writer) its) end)

        -- What its owner path leads to, in a delegation that fits.
        owner_told : {S : Space} {k : Key} {d : ℕ} (w : HandsOn (table_at s) sheet (asked_of owner wanted) j S k d) → told (table_at s) sheet y.writer y.owner_path w.writes.owner_key
        owner_told w = subst (λ (u : Delegation). told (table_at s) sheet u.writer u.owner_path w.writes.owner_key) (sym (one w)) w.writes.owner_means

        pub owner_nowhere : a ≡ None → DelegationHands None
        owner_nowhere g = not_handed (λ S k d w. finds_none owner_leads g w.writes.owner_key (owner_told w))

        module _ (m : Key) (g : a ≡ Some m) (low : owner.0 < length keys) where
          owner_self_lem : IsSelf (table_at s).names.spaces owner (record { 0 = get_or keys owner.0 0 })
          owner_self_lem = own_key (table_at s).names keys names held.index owner low

          pub owner_other : (m.0 ≡ get_or keys owner.0 0 → ⊥) → DelegationHands None
          owner_other f =
              not_handed (λ S k d w.
              let p = leads_one (table_at s).names held.good.names sheet y.writer y.owner_path m w.writes.owner_key (finds_key owner_leads g) (owner_told w) in
              f (ap (λ (u : Key). u.0) p ∙ ap (λ (u : Key). u.0) (self_one w.writes.owner_self owner_self_lem)))

          module _ (b : Option Key) (goal : Finds (NameLeads (table_at s).names (InSheet (table_at s).names sheet) v.writer (path_of v.delegatee)) b) where
            delegatee_leads : Finds (told (table_at s) sheet y.writer y.delegatee_path) b
            delegatee_leads =
                leads_as y.delegatee_path (held.good.delegations j y there).delegatee_path v.delegatee (ap (λ (u : DelegationValue). u.delegatee) its) (table_at s) sheet y.writer b
                (subst (λ (S : Space). Finds (NameLeads (table_at s).names (InSheet (table_at s).names sheet) S (path_of v.delegatee)) b) (ap (λ (u : DelegationValue). u.writer) its) goal)

            pub delegatee_nowhere : b ≡ None → DelegationHands None
            delegatee_nowhere z =
                not_handed (λ S k d w. finds_none delegatee_leads z k (subst (λ (u : Delegation). told (table_at s) sheet u.writer u.delegatee_path k) (sym (one w)) w.leads))

            pub delegation_hands : (k : Key) → b ≡ Some k → m.0 ≡ get_or keys owner.0 0 → v.wanted.object ≡ wanted.object → v.wanted.right ≡ wanted.right
                → DelegationHands (Some (record { writer = v.writer; to = k; depth = v.depth }))
            delegation_hands k z o b c = on (record { writer = v.writer; to = k; depth = v.depth }) (record {
              path = y.delegatee_path;
              writer = record { 0 = get_or keys v.writer.0 0 };
              writes = record {
                is_self = own_key (table_at s).names keys names held.index v.writer holds.writer;
                owner_path = y.owner_path;
                at = at;
                owner_key = record { 0 = get_or keys owner.0 0 };
                owner_self = owner_self_lem;
                owner_means = subst (λ (S : Space). told (table_at s) sheet S y.owner_path (record { 0 = get_or keys owner.0 0 })) (sym w')
                    (subst (λ (u : Key). told (table_at s) sheet y.writer y.owner_path u) (λ i. record { 0 = o i }) (finds_key owner_leads g));
              };
              leads = subst (λ (S : Space). told (table_at s) sheet S y.delegatee_path k) (sym w') (finds_key delegatee_leads z);
            })
              where
                w' : v.writer ≡ y.writer
                w' = ap (λ (u : DelegationValue). u.writer) its

                at : At (table_at s).delegations j
                    (record { writer = v.writer; owner_path = y.owner_path; object = wanted.object; right = wanted.right; delegatee_path = y.delegatee_path; depth = v.depth.0 })
                at = subst (λ (u : Delegation). At (table_at s).delegations j u)
                    (λ i. record {
                      writer = sym w' i;
                      owner_path = y.owner_path;
                      object = (sym (ap (λ (u : DelegationValue). u.wanted.object) its) ∙ b) i;
                      right = (sym (ap (λ (u : DelegationValue). u.wanted.right) its) ∙ c) i;
                      delegatee_path = y.delegatee_path;
                      depth = sym (ap (λ (u : DelegationValue). u.depth.0) its) i;
                    }) there

pub few_spaces_lem : (s keys names accesses delegations : List ℕ) → Held s keys names accesses delegations → length keys ≤ most_spaces
few_spaces_lem s keys names accesses delegations held = omega (arith, held.good.few_spaces, index_spaces (table_at s).names keys names held.index)

-- ---- numbers of records that are there, and that are not
module _ (s keys names accesses delegations : List ℕ) (held : Held s keys names accesses delegations) (n : ℕ) where
  pub accesses_below : n < length accesses → n < length (table_at s).accesses
  accesses_below h = omega (arith, held.access_count)

  pub accesses_past : length accesses ≤ n → length (table_at s).accesses ≤ n
  accesses_past h = omega (arith, held.access_count)

  pub delegations_below : n < length delegations → n < length (table_at s).delegations
  delegations_below h = omega (arith, held.delegation_count)

  pub delegations_past : length delegations ≤ n → length (table_at s).delegations ≤ n
  delegations_past h = omega (arith, held.delegation_count)
