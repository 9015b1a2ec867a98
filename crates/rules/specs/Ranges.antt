-- Which numbers the fields of a table may hold, and what a good table is.
use Rattle.std.specs.Prelude.{◌≡◌, ℕ, ◌<◌, ◌≤◌, length}
use Rattle.rules.specs.Lists.{At}
use Rattle.rules.specs.Depths.{top}
use Rattle.rules.specs.Tables.{Path, Target, to_key, to_name, Binding, AccessRecord, Delegation, NameTable, Table, Request}
use Rattle.rules.specs.KeyTables.{KeyAccess, KeyDelegation, KeyTable, KeyRequest}
use Rattle.rules.specs.Names.{IsSelf}
use Rattle.rules.specs.declared.Key.{Key}
use Rattle.rules.specs.declared.Space.{Space}

-- `n` is from `low` to `high`.
pub record Between (low high n : ℕ) : Type 0 where
  pub least : low ≤ n
  pub most : n ≤ high

-- A key is a number from 1 to 4,294,967,295; a base name 1 to 65,535; an object 0 to 65,535; a right 1 to 32. Depths run from 0 to 15.
abbrev pub most_key : ℕ
most_key = 4294967295

abbrev pub most_base : ℕ
most_base = 65535

abbrev pub most_object : ℕ
most_object = 65535

abbrev pub most_right : ℕ
most_right = 32

-- A path has at most 4 base names.
abbrev pub most_names : ℕ
most_names = 4

-- A table holds up to 64 spaces, 256 bindings, 256 access list records and 512 delegations.
abbrev pub most_spaces : ℕ
most_spaces = 64

abbrev pub most_bindings : ℕ
most_bindings = 256

abbrev pub most_accesses : ℕ
most_accesses = 256

abbrev pub most_delegations : ℕ
most_delegations = 512

abbrev pub GoodKey : Key → Type 0
GoodKey k = Between 1 most_key k.0

pub record GoodPath (p : Path) : Type 0 where
  pub short : length p ≤ most_names
  pub bases : (i b : ℕ) → At p i b → Between 1 most_base b

-- A space number is below the count of spaces.
abbrev pub GoodTarget : ℕ → Target → Type 0
GoodTarget spaces (to_key k) = GoodKey k
GoodTarget spaces (to_name S p) = (S.0 < spaces) × GoodPath p

pub record GoodBinding (spaces : ℕ) (x : Binding) : Type 0 where
  pub space : x.space.0 < spaces
  pub base : Between 1 most_base x.base
  pub target : GoodTarget spaces x.target

pub record GoodAccess (spaces : ℕ) (x : AccessRecord) : Type 0 where
  pub owner : x.owner.0 < spaces
  pub object : x.object ≤ most_object
  pub right : Between 1 most_right x.right
  pub path : GoodPath x.path
  pub depth : x.depth ≤ top

pub record GoodDelegation (spaces : ℕ) (x : Delegation) : Type 0 where
  pub writer : x.writer.0 < spaces
  pub owner_path : GoodPath x.owner_path
  pub object : x.object ≤ most_object
  pub right : Between 1 most_right x.right
  pub delegatee_path : GoodPath x.delegatee_path
  pub depth : x.depth ≤ top

-- Every space has a key of its own; a space binds a base name once.
pub record GoodNames (t : NameTable) : Type 0 where
  pub keys : (S : Space) (k : Key) → IsSelf t.spaces S k → GoodKey k
  pub keys_apart : (S T : Space) (k : Key) → IsSelf t.spaces S k → IsSelf t.spaces T k → S ≡ T
  pub bindings : (i : ℕ) (x : Binding) → At t.bindings i x → GoodBinding (length t.spaces) x
  pub bound_once : (i j : ℕ) (x y : Binding) → At t.bindings i x → At t.bindings j y → x.space ≡ y.space → x.base ≡ y.base → i ≡ j

-- A good table.
pub record Good (t : Table) : Type 0 where
  pub names : GoodNames t.names
  pub accesses : (i : ℕ) (x : AccessRecord) → At t.accesses i x → GoodAccess (length t.names.spaces) x
  pub delegations : (j : ℕ) (x : Delegation) → At t.delegations j x → GoodDelegation (length t.names.spaces) x
  pub few_spaces : length t.names.spaces ≤ most_spaces
  pub few_bindings : length t.names.bindings ≤ most_bindings
  pub few_accesses : length t.accesses ≤ most_accesses
  pub few_delegations : length t.delegations ≤ most_delegations

-- What is asked for by a good request.
pub record GoodRequest (spaces : ℕ) (r : Request) : Type 0 where
  pub subject : GoodTarget spaces r.subject
  pub owner : r.asked.owner.0 < spaces
  pub object : r.asked.object ≤ most_object
  pub right : Between 1 most_right r.asked.right

-- ---- the same of key tables
pub record GoodKeyAccess (x : KeyAccess) : Type 0 where
  pub owner : GoodKey x.owner
  pub object : x.object ≤ most_object
  pub right : Between 1 most_right x.right
  pub subject : GoodKey x.subject
  pub depth : x.depth ≤ top

pub record GoodKeyDelegation (x : KeyDelegation) : Type 0 where
  pub writer : GoodKey x.writer
  pub owner : GoodKey x.owner
  pub object : x.object ≤ most_object
  pub right : Between 1 most_right x.right
  pub delegatee : GoodKey x.delegatee
  pub depth : x.depth ≤ top

pub record GoodKeyRequest (r : KeyRequest) : Type 0 where
  pub subject : GoodKey r.subject
  pub owner : GoodKey r.asked.owner
  pub object : r.asked.object ≤ most_object
  pub right : Between 1 most_right r.asked.right

pub record GoodKeyTable (t : KeyTable) : Type 0 where
  pub accesses : (i : ℕ) (x : KeyAccess) → At t.accesses i x → GoodKeyAccess x
  pub delegations : (j : ℕ) (x : KeyDelegation) → At t.delegations j x → GoodKeyDelegation x
  pub few_accesses : length t.accesses ≤ most_accesses
  pub few_delegations : length t.delegations ≤ most_delegations
