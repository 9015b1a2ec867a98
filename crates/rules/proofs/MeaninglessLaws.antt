-- A record naming someone without a meaning gives access to nobody: without it everyone has what they had.
use mathlib.Core.Path.{subst}
use mathlib.Core.Logic.{◌⊎◌, inl, inr, ◌↔◌}
use mathlib.Core.List.{List, ◌∷◌}
use Prim.Native.Nat.{ℕ, zero, suc}
use native.Mathlib.Nat.{not-suc-le-zero, le_of_suc-le-suc}
use Rattle.rules.specs.Lists.{At}
use Rattle.rules.specs.Tables.{AccessRecord, Delegation, Table, Asked}
use Rattle.rules.specs.Names.{Means}
use Rattle.rules.specs.Access.{Setting, Granted, Name, setting}
use Rattle.rules.specs.Meaningless.{IdleAccess, IdleDelegation, Without, done, stays, goes, WithoutIdle}
use Rattle.rules.specs.declared.Key.{Key}
use Rattle.rules.specs.declared.Space.{Space}
use Rattle.rules.proofs.ListsLaws.{at_head, at_tail}
use Rattle.rules.proofs.AccessLaws.{granted_within}

module _ {A : Type 0} (Idle : A → Type 0) where
  -- What is not idle stays.
  without_to : {l m : List A} → Without Idle l m → (i : ℕ) (x : A) → At l i x → (Idle x → ⊥) → (j : ℕ) × At m j x
  without_to done i x a n = absurd (not-suc-le-zero a.there)
  without_to (stays {x = y} {m = m} w) zero x a n = (0, subst (λ (z : A). At (y ∷ m) 0 z) a.is at_head)
  without_to (stays w) (suc i) x a n = let r = without_to w i x (record { there = le_of_suc-le-suc a.there; is = a.is }) n in (suc r.0, at_tail r.1)
  without_to (goes h w) zero x a n = absurd (n (subst (λ (z : A). Idle z) a.is h))
  without_to (goes h w) (suc i) x a n = without_to w i x (record { there = le_of_suc-le-suc a.there; is = a.is }) n

  -- What stays was there.
  without_from : {l m : List A} → Without Idle l m → (j : ℕ) (x : A) → At m j x → (i : ℕ) × At l i x
  without_from done j x a = absurd (not-suc-le-zero a.there)
  without_from (stays {x = y} {l = l} w) zero x a = (0, subst (λ (z : A). At (y ∷ l) 0 z) a.is at_head)
  without_from (stays w) (suc j) x a = let r = without_from w j x (record { there = le_of_suc-le-suc a.there; is = a.is }) in (suc r.0, at_tail r.1)
  without_from (goes h w) j x a = let r = without_from w j x a in (suc r.0, at_tail r.1)

module _ (t : Table) (accesses : List AccessRecord) (delegations : List Delegation) (w : WithoutIdle t (record { names = t.names; accesses = accesses; delegations = delegations }))
    (q : Asked Space) where
  abbrev Y : Setting
  Y = setting t q

  abbrev Z : Setting
  Z = setting (record { names = t.names; accesses = accesses; delegations = delegations }) q

  roots_to : (i d : ℕ) (k : Key) (n : Name) → Y.Root i n d → Y.Means n k → (i' : ℕ) × (n' : Name) × Z.Root i' n' d × Z.Means n' k
  roots_to i d k n x m =
      let r = without_to (IdleAccess t.names) w.accesses i _ x.at (λ idle. idle k (subst (λ (S : Space). Means t.names S n.path k) x.of_owner m)) in
      (r.0, n, record { of_owner = x.of_owner; at = r.1 }, m)

  writes_to : (j d : ℕ) (k k' : Key) (n : Name) → Y.Wrote j k n d → Y.Means n k' → (j' : ℕ) × (n' : Name) × Z.Wrote j' k n' d × Z.Means n' k'
  writes_to j d k k' n x m =
      let r = without_to (IdleDelegation t.names) w.delegations j _ x.at (λ idle. busy idle) in
      (r.0, n, record { is_self = x.is_self; owner_path = x.owner_path; at = r.1; owner_key = x.owner_key; owner_self = x.owner_self; owner_means = x.owner_means }, m)
    where
      busy : ((k : Key) → Means t.names n.space x.owner_path k → ⊥) ⊎ ((k : Key) → Means t.names n.space n.path k → ⊥) → ⊥
      busy (inl h) = h x.owner_key x.owner_means
      busy (inr h) = h k' m

  roots_from : (i d : ℕ) (k : Key) (n : Name) → Z.Root i n d → Z.Means n k → (i' : ℕ) × (n' : Name) × Y.Root i' n' d × Y.Means n' k
  roots_from i d k n x m = let r = without_from (IdleAccess t.names) w.accesses i _ x.at in (r.0, n, record { of_owner = x.of_owner; at = r.1 }, m)

  writes_from : (j d : ℕ) (k k' : Key) (n : Name) → Z.Wrote j k n d → Z.Means n k' → (j' : ℕ) × (n' : Name) × Y.Wrote j' k n' d × Y.Means n' k'
  writes_from j d k k' n x m =
      let r = without_from (IdleDelegation t.names) w.delegations j _ x.at in
      (r.0, n, record { is_self = x.is_self; owner_path = x.owner_path; at = r.1; owner_key = x.owner_key; owner_self = x.owner_self; owner_means = x.owner_means }, m)

  pub idle_gives_nothing : (k : Key) (d : ℕ) → Granted Y k d ↔ Granted Z k d
  idle_gives_nothing k d = (granted_within Y Z (λ d a h. h) roots_to writes_to, granted_within Z Y (λ d a h. h) roots_from writes_from)
