-- The translation of a table to a key table, under a meaning of names: as a relation, and as a function.
use Rattle.std.specs.Prelude.{◌≡◌, List, [], ◌∷◌}
use Rattle.std.proofs.Math.Option.{Option, some, bind}
use Rattle.std.proofs.Math.ListN.{get_elem?}
use Rattle.rules.specs.Tables.{Path, AccessRecord, Delegation, Table}
use Rattle.rules.specs.Names.{IsSelf}
use Rattle.rules.specs.Access.{Meaning}
use Rattle.rules.specs.Derivations.{with_some}
use Rattle.rules.specs.KeyTables.{KeyAccess, KeyDelegation, KeyTable}
use Rattle.rules.specs.declared.Key.{Key}
use Rattle.rules.specs.declared.Space.{Space}

-- A record becomes one with the keys meant.
pub record AccessToKeys (M : Meaning) (t : Table) (x : AccessRecord) (y : KeyAccess) : Type 0 where
  pub owner : IsSelf t.names.spaces x.owner y.owner
  pub object : x.object ≡ y.object
  pub right : x.right ≡ y.right
  pub subject : M x.owner x.path y.subject
  pub depth : x.depth ≡ y.depth

pub record DelegationToKeys (M : Meaning) (t : Table) (x : Delegation) (y : KeyDelegation) : Type 0 where
  pub writer : IsSelf t.names.spaces x.writer y.writer
  pub owner : M x.writer x.owner_path y.owner
  pub object : x.object ≡ y.object
  pub right : x.right ≡ y.right
  pub delegatee : M x.writer x.delegatee_path y.delegatee
  pub depth : x.depth ≡ y.depth

-- It keeps record order, and omits a record that nothing translates: one of whose paths has no meaning.
pub data InOrder {A B : Type 0} (ToKeys : A → B → Type 0) : List A → List B → Type 0 where
  done : InOrder ToKeys [] []
  kept : {x : A} {y : B} {l : List A} {m : List B} → ToKeys x y → InOrder ToKeys l m → InOrder ToKeys (x ∷ l) (y ∷ m)
  omitted : {x : A} {l : List A} {m : List B} → ((y : B) → ToKeys x y → ⊥) → InOrder ToKeys l m → InOrder ToKeys (x ∷ l) m

-- THE KEY TABLE IS THE TABLE'S TRANSLATION.
pub record Translates (M : Meaning) (t : Table) (K : KeyTable) : Type 0 where
  pub accesses : InOrder (AccessToKeys M t) t.accesses K.accesses
  pub delegations : InOrder (DelegationToKeys M t) t.delegations K.delegations

-- ---- as a function, where `m` tells the key that a name means
abbrev pub Teller : Type 0
Teller = Space → Path → Option Key

unfoldable pub access_keys : Teller → Table → AccessRecord → Option KeyAccess
access_keys m t x =
    bind (get_elem? t.names.spaces x.owner.0) (λ owner. bind (m x.owner x.path) (λ subject.
    some (record { owner = owner; object = x.object; right = x.right; subject = subject; depth = x.depth })))

unfoldable pub delegation_keys : Teller → Table → Delegation → Option KeyDelegation
delegation_keys m t x =
    bind (get_elem? t.names.spaces x.writer.0) (λ writer. bind (m x.writer x.owner_path) (λ owner. bind (m x.writer x.delegatee_path) (λ delegatee.
    some (record { writer = writer; owner = owner; object = x.object; right = x.right; delegatee = delegatee; depth = x.depth }))))

abbrev pub each : {A B : Type 0} → (A → Option B) → List A → List B
each f [] = []
each f (x ∷ l) = with_some (f x) (each f l)

abbrev pub translate : Teller → Table → KeyTable
translate m t = record { accesses = each (access_keys m t) t.accesses; delegations = each (delegation_keys m t) t.delegations }
