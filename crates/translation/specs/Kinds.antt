-- The two kinds of record that a table becomes a key table of.
use Rattle.std.specs.Prelude.{◌≡◌, List, ℕ, ◌<◌, length}
use Rattle.std.proofs.Common.{arith}
use Rattle.rules.specs.Tables.{AccessRecord, Delegation, Table}
use Rattle.rules.specs.Ranges.{Good}
use Rattle.rules.specs.Names.{Means}
use Rattle.rules.specs.KeyTables.{KeyAccess, KeyDelegation, KeyTable}
use Rattle.rules.specs.Translation.{AccessToKeys, DelegationToKeys, InOrder, Translates}
use Rattle.rules.proofs.NamesLaws.{meaning_one}
use Rattle.rules.proofs.TranslationLaws.{access_one, delegation_one}
use Rattle.records.specs.KeyRecords.{key_access_bytes, key_delegation_bytes}

-- A kind of record: those of a table, those of a key table, which of these the others become, and the bytes of these.
pub record Kind : Type 1 where
  pub Record : Type 0
  pub KeyRecord : Type 0
  pub ToKeys : Table → Record → KeyRecord → Type 0
  pub records : Table → List Record
  pub key_records : KeyTable → List KeyRecord
  pub bytes : KeyRecord → List ℕ

abbrev pub access_kind : Kind
access_kind = record {
  Record = AccessRecord;
  KeyRecord = KeyAccess;
  ToKeys = λ t. AccessToKeys (Means t.names) t;
  records = λ t. t.accesses;
  key_records = λ K. K.accesses;
  bytes = key_access_bytes;
}

abbrev pub delegation_kind : Kind
delegation_kind = record {
  Record = Delegation;
  KeyRecord = KeyDelegation;
  ToKeys = λ t. DelegationToKeys (Means t.names) t;
  records = λ t. t.delegations;
  key_records = λ K. K.delegations;
  bytes = key_delegation_bytes;
}

-- What holds of every kind: over a good table a record becomes one at most, a translation has what they become in order, and they are few.
pub record KindLaws (K : Kind) : Type 0 where
  pub one : (t : Table) → Good t → (x : K.Record) (y z : K.KeyRecord) → K.ToKeys t x y → K.ToKeys t x z → y ≡ z
  pub order : (t : Table) (k : KeyTable) → Translates (Means t.names) t k → InOrder (K.ToKeys t) (K.records t) (K.key_records k)
  pub few : (t : Table) → Good t → length (K.records t) < 16384

pub access_laws : KindLaws access_kind
access_laws = record {
  one = λ t good. access_one (Means t.names) (λ S p k k' a b. meaning_one t.names good.names a b) t;
  order = λ t k w. w.accesses;
  few = λ t good. omega (arith, good.few_accesses);
}

pub delegation_laws : KindLaws delegation_kind
delegation_laws = record {
  one = λ t good. delegation_one (Means t.names) (λ S p k k' a b. meaning_one t.names good.names a b) t;
  order = λ t k w. w.delegations;
  few = λ t good. omega (arith, good.few_delegations);
}
