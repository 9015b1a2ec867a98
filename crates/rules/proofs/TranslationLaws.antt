-- Translation changes nothing: the key rules over the translated table grant each key exactly what the rules with names grant it.
use mathlib.Core.Path.{◌≡◌, refl, sym, ◌∙◌, ap, subst}
use mathlib.Core.Logic.{◌↔◌}
use mathlib.Core.List.{List, [], ◌∷◌}
use mathlib.Core.Option.{Option, none, some, bind-eq-some_iff, some-injective}
use Prim.Native.Nat.{ℕ, zero, suc}
use native.Mathlib.Nat.{not-suc-le-zero, le_of_suc-le-suc}
use native.Mathlib.Omega.{arith}
use lib.ListN.{get_elem?}
use Rattle.rules.specs.Lists.{At}
use Rattle.rules.specs.Tables.{Path, AccessRecord, Delegation, Table, Asked}
use Rattle.rules.specs.Names.{IsSelf}
use Rattle.rules.specs.Ranges.{GoodNames}
use Rattle.rules.specs.Access.{Setting, Granted, Name, Meaning, setting_by}
use Rattle.rules.specs.Derivations.{with_some}
use Rattle.rules.specs.KeyTables.{KeyAccess, KeyDelegation, KeyTable, key_setting}
use Rattle.rules.specs.Translation.{AccessToKeys, DelegationToKeys, InOrder, done, kept, omitted, Translates, Teller, access_keys, delegation_keys, each, translate}
use Rattle.rules.specs.declared.Key.{Key}
use Rattle.rules.specs.declared.Space.{Space}
use Rattle.rules.proofs.ListsLaws.{at_head, at_tail, at_some, some_at}
use Rattle.rules.proofs.NamesLaws.{self_one}
use Rattle.rules.proofs.AccessLaws.{granted_within}

-- ---- records kept in order
module _ {A B : Type 0} (T : A → B → Type 0) where
  -- What is written comes from a record.
  pub order_from : {l : List A} {m : List B} → InOrder T l m → (j : ℕ) (y : B) → At m j y → (i : ℕ) × (x : A) × At l i x × T x y
  order_from done j y a = absurd (not-suc-le-zero a.there)
  order_from (kept {x = x} h o) zero y a = (0, x, at_head, subst (λ (z : B). T x z) a.is h)
  order_from (kept h o) (suc j) y a =
      let r = order_from o j y (record { there = le_of_suc-le-suc a.there; is = a.is }) in
      (suc r.0, r.1, at_tail r.2, r.3)
  order_from (omitted n o) j y a = let r = order_from o j y a in (suc r.0, r.1, at_tail r.2, r.3)

  -- What a record becomes is written, where that is one.
  module _ (one : (x : A) (y z : B) → T x y → T x z → y ≡ z) where
    pub order_to : {l : List A} {m : List B} → InOrder T l m → (i : ℕ) (x : A) (y : B) → At l i x → T x y → (j : ℕ) × At m j y
    order_to done i x y a h = absurd (not-suc-le-zero a.there)
    order_to (kept {y = z} {m = m} g o) zero x y a h = (0, subst (λ (v : B). At (z ∷ m) 0 v) (one x z y (subst (λ (u : A). T u z) a.is g) h) at_head)
    order_to (kept g o) (suc i) x y a h = let r = order_to o i x y (record { there = le_of_suc-le-suc a.there; is = a.is }) h in (suc r.0, at_tail r.1)
    order_to (omitted n o) zero x y a h = absurd (n y (subst (λ (u : A). T u y) (sym a.is) h))
    order_to (omitted n o) (suc i) x y a h = order_to o i x y (record { there = le_of_suc-le-suc a.there; is = a.is }) h

    -- Records become one list.
    pub order_one : {l : List A} {m n : List B} → InOrder T l m → InOrder T l n → m ≡ n
    order_one done done = refl
    order_one (kept {x = x} {y = y} h o) (kept {y = z} g p) = λ d. one x y z h g d ∷ order_one o p d
    order_one (kept {y = y} h o) (omitted n p) = absurd (n y h)
    order_one (omitted n o) (kept {y = y} h p) = absurd (n y h)
    order_one (omitted n o) (omitted m p) = order_one o p

module _ (M : Meaning) (one : (S : Space) (p : Path) (k k' : Key) → M S p k → M S p k' → k ≡ k') (t : Table) where
  -- A record becomes one.
  pub access_one : (x : AccessRecord) (y z : KeyAccess) → AccessToKeys M t x y → AccessToKeys M t x z → y ≡ z
  access_one x y z a b = λ d. record {
    owner = self_one a.owner b.owner d;
    object = (sym a.object ∙ b.object) d;
    right = (sym a.right ∙ b.right) d;
    subject = one x.owner x.path y.subject z.subject a.subject b.subject d;
    depth = (sym a.depth ∙ b.depth) d;
  }

  pub delegation_one : (x : Delegation) (y z : KeyDelegation) → DelegationToKeys M t x y → DelegationToKeys M t x z → y ≡ z
  delegation_one x y z a b = λ d. record {
    writer = self_one a.writer b.writer d;
    owner = one x.writer x.owner_path y.owner z.owner a.owner b.owner d;
    object = (sym a.object ∙ b.object) d;
    right = (sym a.right ∙ b.right) d;
    delegatee = one x.writer x.delegatee_path y.delegatee z.delegatee a.delegatee b.delegatee d;
    depth = (sym a.depth ∙ b.depth) d;
  }

  -- A TABLE HAS ONE TRANSLATION.
  pub translation_one : (K L : KeyTable) → Translates M t K → Translates M t L → K ≡ L
  translation_one K L a b = λ d. record {
    accesses = order_one (AccessToKeys M t) access_one a.accesses b.accesses d;
    delegations = order_one (DelegationToKeys M t) delegation_one a.delegations b.delegations d;
  }

  -- ---- the two settings give each other's grants
  module _ (good : GoodNames t.names) (K : KeyTable) (tr : Translates M t K) (q : Asked Space) (owner_key : Key) (own : IsSelf t.names.spaces q.owner owner_key) where
    abbrev Y : Setting
    Y = setting_by M t q

    abbrev Z : Setting
    Z = key_setting K (record { owner = owner_key; object = q.object; right = q.right })

    roots_to : (i d : ℕ) (k : Key) (n : Name) → Y.Root i n d → Y.Means n k → (i' : ℕ) × (n' : Key) × Z.Root i' n' d × Z.Means n' k
    roots_to i d k n x m =
        let r = order_to (AccessToKeys M t) access_one tr.accesses i _ (record { owner = owner_key; object = q.object; right = q.right; subject = k; depth = d }) x.at
        (record { owner = own; object = refl; right = refl; subject = subst (λ (S : Space). M S n.path k) x.of_owner m; depth = refl }) in
        (r.0, k, r.1, refl)

    writes_to : (j d : ℕ) (k k' : Key) (n : Name) → Y.Wrote j k n d → Y.Means n k' → (j' : ℕ) × (n' : Key) × Z.Wrote j' k n' d × Z.Means n' k'
    writes_to j d k k' n x m =
        let e = self_one x.owner_self own in
        let r = order_to (DelegationToKeys M t) delegation_one tr.delegations j _
        (record { writer = k; owner = owner_key; object = q.object; right = q.right; delegatee = k'; depth = d }) x.at
        (record { writer = x.is_self; owner = subst (λ (y : Key). M n.space x.owner_path y) e x.owner_means; object = refl; right = refl; delegatee = m; depth = refl }) in
        (r.0, k', r.1, refl)

    -- The record that became `y`, in the words of the request.
    root_back : (i d : ℕ) (k : Key) (x : AccessRecord) → At t.accesses i x
        → AccessToKeys M t x (record { owner = owner_key; object = q.object; right = q.right; subject = k; depth = d })
        → (i' : ℕ) × (n : Name) × Y.Root i' n d × Y.Means n k
    root_back i d k x a h =
        let s : x.owner ≡ q.owner = good.keys_apart x.owner q.owner owner_key h.owner own in
        let e : x ≡ record { owner = q.owner; object = q.object; right = q.right; path = x.path; depth = d } =
        λ z. record { owner = s z; object = h.object z; right = h.right z; path = x.path; depth = h.depth z } in (
          i,
          record { space = q.owner; path = x.path },
          record { of_owner = refl; at = subst (λ (y : AccessRecord). At t.accesses i y) e a },
          subst (λ (S : Space). M S x.path k) s h.subject,
        )

    wrote_back : (j d : ℕ) (k k' : Key) (x : Delegation) → At t.delegations j x
        → DelegationToKeys M t x (record { writer = k; owner = owner_key; object = q.object; right = q.right; delegatee = k'; depth = d })
        → (j' : ℕ) × (n : Name) × Y.Wrote j' k n d × Y.Means n k'
    wrote_back j d k k' x a h =
        let e : x ≡ record { writer = x.writer; owner_path = x.owner_path; object = q.object; right = q.right; delegatee_path = x.delegatee_path; depth = d } =
        λ z. record { writer = x.writer; owner_path = x.owner_path; object = h.object z; right = h.right z; delegatee_path = x.delegatee_path; depth = h.depth z } in (
          j,
          record { space = x.writer; path = x.delegatee_path },
          record {
            is_self = h.writer;
            owner_path = x.owner_path;
            at = subst (λ (y : Delegation). At t.delegations j y) e a;
            owner_key = owner_key;
            owner_self = own;
            owner_means = h.owner;
          },
          h.delegatee,
        )

    roots_from : (i d : ℕ) (k n : Key) → Z.Root i n d → Z.Means n k → (i' : ℕ) × (n' : Name) × Y.Root i' n' d × Y.Means n' k
    roots_from i d k n x e =
        let r = order_from (AccessToKeys M t) tr.accesses i _ (rw e at x) in
        root_back r.0 d k r.1 r.2 r.3

    writes_from : (j d : ℕ) (k k' n : Key) → Z.Wrote j k n d → Z.Means n k' → (j' : ℕ) × (n' : Name) × Y.Wrote j' k n' d × Y.Means n' k'
    writes_from j d k k' n x e =
        let r = order_from (DelegationToKeys M t) tr.delegations j _ (rw e at x) in
        wrote_back r.0 d k k' r.1 r.2 r.3

    -- TRANSLATION CHANGES NOTHING.
    pub translation_grants : (k : Key) (d : ℕ) → Granted Y k d ↔ Granted Z k d
    translation_grants k d = (granted_within Y Z (λ d a h. h) roots_to writes_to, granted_within Z Y (λ d a h. h) roots_from writes_from)

-- ---- the function is the relation
-- The teller tells what names mean.
pub record Tells (M : Meaning) (m : Teller) : Type 0 where
  pub tells : (S : Space) (p : Path) (k : Key) → (m S p ≡ some k) ↔ M S p k

module _ {A B : Type 0} (f : A → Option B) (T : A → B → Type 0) (becomes : (x : A) (y : B) → (f x ≡ some y) ↔ T x y) where
  each_in_order : (l : List A) → InOrder T l (each f l)
  each_in_order [] = done
  each_in_order (x ∷ l) = go (f x) refl (each_in_order l)
    where
      go : (o : Option B) → f x ≡ o → InOrder T l (each f l) → InOrder T (x ∷ l) (with_some o (each f l))
      go none e r = omitted (λ y h. let z : ◌≡◌ {A = Option B} none (some y) = sym e ∙ (becomes x y).1 h in let w : ◌≡◌ {A = ℕ} 0 1 = cc in omega arith) r
      go (some y) e r = kept ((becomes x y).0 e) r

module _ (M : Meaning) (m : Teller) (c : Tells M m) (t : Table) where
  becomes_access : (x : AccessRecord) (y : KeyAccess) → (access_keys m t x ≡ some y) ↔ AccessToKeys M t x y
  unfolding access_keys
  becomes_access x y = (to, from)
    where
      made : Key → Key → KeyAccess
      made owner subject = record { owner = owner; object = x.object; right = x.right; subject = subject; depth = x.depth }

      found : (owner subject : Key) → get_elem? t.names.spaces x.owner.0 ≡ some owner → m x.owner x.path ≡ some subject → made owner subject ≡ y → AccessToKeys M t x y
      found owner subject a b e = subst (λ (z : KeyAccess). AccessToKeys M t x z) e record {
        owner = record { at = some_at t.names.spaces x.owner.0 owner a };
        object = refl;
        right = refl;
        subject = (c.tells x.owner x.path subject).0 b;
        depth = refl;
      }

      to : access_keys m t x ≡ some y → AccessToKeys M t x y
      to e =
          let a = (bind-eq-some_iff (get_elem? t.names.spaces x.owner.0) _).0 e in
          let b = (bind-eq-some_iff (m x.owner x.path) _).0 a.2 in
          found a.0 b.0 a.1 b.1 (some-injective _ y b.2)

      from : AccessToKeys M t x y → access_keys m t x ≡ some y
      from h = (bind-eq-some_iff (get_elem? t.names.spaces x.owner.0) _).1 (
        y.owner,
        at_some h.owner.at,
        (bind-eq-some_iff (m x.owner x.path) _).1 (
          y.subject,
          (c.tells x.owner x.path y.subject).1 h.subject,
          ap some (λ d. record { owner = y.owner; object = h.object d; right = h.right d; subject = y.subject; depth = h.depth d }),
        ),
      )

  becomes_delegation : (x : Delegation) (y : KeyDelegation) → (delegation_keys m t x ≡ some y) ↔ DelegationToKeys M t x y
  unfolding delegation_keys
  becomes_delegation x y = (to, from)
    where
      made : Key → Key → Key → KeyDelegation
      made writer owner delegatee = record { writer = writer; owner = owner; object = x.object; right = x.right; delegatee = delegatee; depth = x.depth }

      found : (writer owner delegatee : Key) → get_elem? t.names.spaces x.writer.0 ≡ some writer → m x.writer x.owner_path ≡ some owner
          → m x.writer x.delegatee_path ≡ some delegatee → made writer owner delegatee ≡ y → DelegationToKeys M t x y
      found writer owner delegatee a b f e = subst (λ (z : KeyDelegation). DelegationToKeys M t x z) e record {
        writer = record { at = some_at t.names.spaces x.writer.0 writer a };
        owner = (c.tells x.writer x.owner_path owner).0 b;
        object = refl;
        right = refl;
        delegatee = (c.tells x.writer x.delegatee_path delegatee).0 f;
        depth = refl;
      }

      to : delegation_keys m t x ≡ some y → DelegationToKeys M t x y
      to e =
          let a = (bind-eq-some_iff (get_elem? t.names.spaces x.writer.0) _).0 e in
          let b = (bind-eq-some_iff (m x.writer x.owner_path) _).0 a.2 in
          let f = (bind-eq-some_iff (m x.writer x.delegatee_path) _).0 b.2 in
          found a.0 b.0 f.0 a.1 b.1 f.1 (some-injective _ y f.2)

      from : DelegationToKeys M t x y → delegation_keys m t x ≡ some y
      from h = (bind-eq-some_iff (get_elem? t.names.spaces x.writer.0) _).1 (
        y.writer,
        at_some h.writer.at,
        (bind-eq-some_iff (m x.writer x.owner_path) _).1 (
          y.owner,
          (c.tells x.writer x.owner_path y.owner).1 h.owner,
          (bind-eq-some_iff (m x.writer x.delegatee_path) _).1 (
            y.delegatee,
            (c.tells x.writer x.delegatee_path y.delegatee).1 h.delegatee,
            ap some (λ d. record { writer = y.writer; owner = y.owner; object = h.object d; right = h.right d; delegatee = y.delegatee; depth = h.depth d }),
          ),
        ),
      )

  -- THE FUNCTION TRANSLATES.
  pub translate_translates : Translates M t (translate m t)
  translate_translates = record {
    accesses = each_in_order (access_keys m t) (AccessToKeys M t) becomes_access t.accesses;
    delegations = each_in_order (delegation_keys m t) (DelegationToKeys M t) becomes_delegation t.delegations;
  }
