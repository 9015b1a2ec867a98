-- What reading a key table for a request keeps: where those records stand that are for what is asked.
use Rattle.std.specs.Prelude.{◌≡◌, Bool, List, [], ◌∷◌, ℕ, ◌≤◌, length, Result, Ok, Err}
use Rattle.rules.specs.Choice.{pick}
use Rattle.rules.specs.Ranges.{GoodKeyTable}
use Rattle.rules.specs.Tables.{Asked}
use Rattle.rules.specs.KeyTables.{KeyAccess, KeyDelegation, KeyTable}
use Rattle.rules.specs.declared.Key.{Key}
use Rattle.records.specs.Parsed.{Parsed, got, bad, Reader}
use Rattle.records.specs.KeyRecords.{key_access_record, key_delegation_record}
use Rattle.records.specs.Passing.{is_for}
use Rattle.records.specs.declared.faults.Fault.{Fault}
use Rattle.table.specs.Sections.{Part, section_of}
use Rattle.table.specs.Kept.{Standing}
use Rattle.table.specs.ReadKeyTable.{KeyLaid}
use Rattle.keytable.specs.Loading.{key_table_at}
use Rattle.keytable.specs.declared.KeyKept.{KeyKept}
use Rattle.keytable.specs.declared.loading.KeptSection.{KeptSection}

-- Whether a record for this owner, object and right is for what is asked.
unfoldable pub is_asked : Asked Key → Key → ℕ → ℕ → Bool
is_asked q owner object right = is_for q.owner.0 q.object q.right owner object right

abbrev pub access_asked : Asked Key → KeyAccess → Bool
access_asked q x = is_asked q x.owner x.object x.right

abbrev pub delegation_asked : Asked Key → KeyDelegation → Bool
delegation_asked q x = is_asked q x.owner x.object x.right

-- The elements that pass the test, in their order.
unfoldable pub sift : {A : Type 0} → (A → Bool) → List A → List A
sift f [] = []
sift f (x ∷ l) = pick (f x) (x ∷ sift f l) (sift f l)

-- The key table without the records that are for something else.
abbrev pub asked_of : KeyTable → Asked Key → KeyTable
asked_of K q = record { accesses = sift (access_asked q) K.accesses; delegations = sift (delegation_asked q) K.delegations }

abbrev pub asked_at : List ℕ → Asked Key → KeyTable
asked_at s q = asked_of (key_table_at s) q

-- How many pass the test.
abbrev pub sifted : {A : Type 0} → (A → Bool) → List A → ℕ
sifted f l = length (sift f l)

-- The first `n` entries are the places at which the records of the list stand.
pub record Placed {A : Type 0} (P : Reader A) (s places : List ℕ) (n : ℕ) (l : List A) : Type 0 where
  pub counted : n ≡ length l
  pub room : n ≤ length places
  pub standing : Standing P s places l

-- What is kept of the records that were read.
pub record KeysKept (s : List ℕ) (q : Asked Key) (access_places delegation_places : List ℕ) (l : KeyLaid) : Type 0 where
  pub accesses : Placed key_access_record s access_places (sifted (access_asked q) l.accesses.records) (sift (access_asked q) l.accesses.records)
  pub delegations : Placed key_delegation_record s delegation_places (sifted (delegation_asked q) l.delegations.records) (sift (delegation_asked q) l.delegations.records)

-- Good bytes, and where the records stand that are for what is asked.
pub record Known (s : List ℕ) (q : Asked Key) (access_places delegation_places : List ℕ) : Type 0 where
  pub good : GoodKeyTable (asked_at s q)
  pub accesses : Placed key_access_record s access_places (length access_places) (asked_at s q).accesses
  pub delegations : Placed key_delegation_record s delegation_places (length delegation_places) (asked_at s q).delegations

-- ---- as code answers
-- A section, and how many of its records pass the test.
abbrev pub kept_of : {A : Type 0} → (A → Bool) → Part A → KeptSection
kept_of f p = record { section = section_of p; kept = sifted f p.records }

abbrev pub kept_in : Asked Key → Parsed KeyLaid → Result KeyKept Fault
kept_in q (got l at) = Ok (record { accesses = kept_of (access_asked q) l.accesses; delegations = kept_of (delegation_asked q) l.delegations })
kept_in q (bad e) = Err e
