-- DEMAND 3. Replacing names by keys beforehand changes no decision: the translated table has only keys, and every accepted request whose subject has a meaning
-- gets the same grant, depth or denial from it, by rules that know no names. Records naming someone without a meaning give access to nobody, also not to each other.
use Rattle.std.specs.Prelude.{◌≡◌, List, ◌↔◌, ℕ, ◌≤◌, length, take, Ok, Err}
use Rattle.std.proofs.Math.Option.{some}
use Rattle.rules.specs.Tables.{Request, AccessRecord, Delegation}
use Rattle.rules.specs.Names.{TargetMeans, IsSelf}
use Rattle.rules.specs.Meaningless.{WithoutIdle}
use Rattle.rules.specs.declared.Key.{Key}
use Rattle.rules.specs.declared.Depth.{Depth}
use Rattle.wire.specs.Number.{Bytes}
use Rattle.records.specs.Parsed.{got}
use Rattle.records.specs.Requests.{read_request, read_key_request}
use Rattle.table.specs.ReadTable.{Laid as LaidTable, table_of, read_table}
use Rattle.table.specs.ReadKeyTable.{KeyLaid, read_key_table, most_key_table}
use Rattle.decision.specs.Promise.{Decides, Decided}
use Rattle.decision.specs.declared.Refusal.TheVariants as undecided
use Rattle.translation.specs.Promise.{Translated, Answers}
use Rattle.keytable.specs.Deciding.{KeyAnswer, KeyDecides}
use Rattle.keytable.specs.declared.KeyRefusal.TheVariants as by_keys
use Rattle.demands.specs.DemandTwo.{Accepted, Room}

-- The translation succeeds, and its bytes load as a key table, which has nothing but keys in it.
pub record Succeeds (a : Translated) (after : List ℕ) : Type 0 where
  pub length' : ℕ
  pub done : a ≡ Ok length'
  pub key_laid : KeyLaid
  pub loads : read_key_table (take length' after) ≡ got key_laid length'

-- The same question, with keys: the subject's key, and the owner's own.
pub record AsksTheSame (table request key_request : List ℕ) (x : Accepted table request) : Type 0 where
  pub owner : Key
  pub own : IsSelf (table_of x.laid).names.spaces x.asked.asked.owner owner
  pub read : read_key_request key_request ≡ some (record { subject = x.key; asked = record { owner = owner; object = x.asked.asked.object; right = x.asked.asked.right } })

-- The same grant at the same depth, or the same denial.
pub record SameAnswer (a : Decided) (b : KeyAnswer) : Type 0 where
  pub granted : (d : Depth) → ((n : ℕ) × (a ≡ Ok (record { depth = d; length = n }))) ↔ (b ≡ Ok d)
  pub denied : (a ≡ Err undecided.Denied) ↔ (b ≡ Err by_keys.Denied)

-- The second table is the first without some of its records that name someone without a meaning.
pub record TakenOut (l m : LaidTable) : Type 0 where
  pub accesses : List AccessRecord
  pub delegations : List Delegation
  pub is : table_of m ≡ record { names = (table_of l).names; accesses = accesses; delegations = delegations }
  pub idle : WithoutIdle (table_of l) (record { names = (table_of l).names; accesses = accesses; delegations = delegations })

pub record SameDecision (a b : Decided) : Type 0 where
  pub granted : (d : Depth) → ((n : ℕ) × (a ≡ Ok (record { depth = d; length = n }))) ↔ ((n : ℕ) × (b ≡ Ok (record { depth = d; length = n })))
  pub denied : (a ≡ Err undecided.Denied) ↔ (b ≡ Err undecided.Denied)

pub record DemandThree : Type 0 where
  pub succeeds : (table before after : List ℕ) (a : Translated) (l : LaidTable) (end : ℕ) → Bytes table → read_table table ≡ got l end → most_key_table ≤ length before
      → Answers table before a after → Succeeds a after
  -- The same question can be asked with keys,
  pub asked : (table request : List ℕ) → Bytes table → Bytes request → (x : Accepted table request) → (key_request : List ℕ) × AsksTheSame table request key_request x
  -- and gets the same answer.
  pub same : (table before after request key_request sheet₀ derivation₀ sheet derivation : List ℕ) (n : ℕ) (a : Decided) (b : KeyAnswer) → Bytes table
      → Answers table before (Ok n) after → (x : Accepted table request) → AsksTheSame table request key_request x → Room sheet₀ derivation₀ a
      → Decides table request sheet₀ derivation₀ a sheet derivation → KeyDecides (take n after) key_request b → SameAnswer a b
  -- A record that names someone without a meaning gives access to nobody: it could as well be taken out.
  pub idle : (table table' request sheet₀ derivation₀ sheet derivation sheet' derivation' : List ℕ) (a b : Decided) → Bytes table → Bytes table' → (x : Accepted table request) (y : Accepted table' request)
      → TakenOut x.laid y.laid → Decides table request sheet₀ derivation₀ a sheet derivation → Room sheet₀ derivation₀ a → Decides table' request sheet₀ derivation₀ b sheet' derivation'
      → Room sheet₀ derivation₀ b → SameDecision a b
  -- Nor to another such name: a subject without a meaning is told that it has none, whatever the records say.
  pub unnamed : (table request sheet₀ derivation₀ sheet derivation : List ℕ) (a : Decided) (l : LaidTable) (end : ℕ) (r : Request) → read_table table ≡ got l end
      → read_request (length (table_of l).names.spaces) request ≡ some r → ((k : Key) → TargetMeans (table_of l).names r.subject k → ⊥) → Room sheet₀ derivation₀ a
      → Decides table request sheet₀ derivation₀ a sheet derivation → a ≡ Err undecided.Unnamed
