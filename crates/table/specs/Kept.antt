-- What reading a table keeps of its spaces and bindings, so that no look-up reads a record again: numbers, in lent arrays.
use Rattle.std.specs.Prelude.{◌≡◌, Bool, false, List, map, ℕ, ◌<◌, ◌≤◌, length, take, get_or}
use Rattle.rules.specs.Lists.{At}
use Rattle.rules.specs.Tables.{Binding}
use Rattle.rules.specs.declared.Key.{Key}
use Rattle.rules.specs.declared.Space.{Space}
use Rattle.records.specs.Parsed.{Parsed, got, Reader}
use Rattle.records.specs.Bindings.{binding_record, packed}
use Rattle.records.specs.Accesses.{access_record}
use Rattle.records.specs.Delegations.{delegation_record}
use Rattle.table.specs.ReadTable.{Laid}

-- What holds of what was read, if all is well.
abbrev pub IfGood : {A : Type 0} → Parsed A → (A → Type 0) → Type 0
IfGood {A} p K = (x : A) (at : ℕ) → p ≡ got x at → K x

-- The first entries of an array tell a number of each record.
pub record Kept {A : Type 0} (f : A → ℕ) (entries : List ℕ) (l : List A) : Type 0 where
  pub same : take (length l) entries ≡ map f l

-- The entries are places, and at each its record can be read.
pub record Standing {A : Type 0} (P : Reader A) (s places : List ℕ) (l : List A) : Type 0 where
  pub within : (i : ℕ) → i < length l → get_or places i 0 ≤ length s
  pub stands : (i : ℕ) (x : A) → At l i x → (next : ℕ) × (P s (get_or places i 0) ≡ got x next)

abbrev pub number_of : Key → ℕ
number_of k = k.0

abbrev pub name_of : Binding → ℕ
name_of x = packed x.space x.base

-- No name is bound: what a binding's reader asks where it is not to look for Twice.
abbrev pub unbound : Space → ℕ → Bool
unbound S b = false

-- What is kept of a whole table: the keys of the spaces, the names that the bindings bind, packed, and where the records stand.
pub record Indexed (s : List ℕ) (l : Laid) (keys packed_names binding_places access_places delegation_places : List ℕ) : Type 0 where
  pub spaces : Kept number_of keys l.spaces.records
  pub names : Kept name_of packed_names l.bindings.records
  pub bindings : Standing (binding_record (length l.spaces.records) unbound) s binding_places l.bindings.records
  pub accesses : Standing (access_record (length l.spaces.records)) s access_places l.accesses.records
  pub delegations : Standing (delegation_record (length l.spaces.records)) s delegation_places l.delegations.records
