-- What is marked of a derivation's records.
use Rattle.std.specs.Prelude.{◌≡◌, ◌⊎◌, Bool, true, List, ℕ, ◌<◌, length}
use Rattle.rules.specs.Lists.{At, In}
use Rattle.rules.specs.Tables.{Target, Binding, AccessRecord, Delegation, Table}
use Rattle.rules.specs.Names.{Through, TargetThrough}
use Rattle.rules.specs.Sheets.{entry}
use Rattle.marking.specs.Marks.{marked, Adds}
use Rattle.marking.specs.Needed.{Wanted}

-- The path of access record number `i` goes through binding number `b`.
pub record ByAccess (t : Table) (i b : ℕ) : Type 0 where
  pub access : AccessRecord
  pub at : At t.accesses i access
  pub through : Through t.names access.owner access.path b

-- A path of delegation number `j` goes through binding number `b`.
pub record ByDelegation (t : Table) (j b : ℕ) : Type 0 where
  pub delegation : Delegation
  pub at : At t.delegations j delegation
  pub through : Through t.names delegation.writer delegation.owner_path b ⊎ Through t.names delegation.writer delegation.delegatee_path b

abbrev pub AccessMarked : Table → ℕ → List Bool → List Bool → Type 0
AccessMarked t i before after = Adds (ByAccess t i) before after

abbrev pub DelegationMarked : Table → ℕ → List Bool → List Bool → Type 0
DelegationMarked t j before after = Adds (ByDelegation t j) before after

-- Paths of delegations of the chain.
abbrev pub ChainMarked : Table → List ℕ → List Bool → List Bool → Type 0
ChainMarked t c before after = Adds (λ (b : ℕ). (j : ℕ) × In c j × ByDelegation t j b) before after

-- Every number is that of a delegation.
pub record AllWritten (t : Table) (c : List ℕ) : Type 0 where
  pub written : (i : ℕ) → i < length c → entry c i < length t.delegations

-- Nothing is marked yet.
pub record Unmarked (marks : List Bool) : Type 0 where
  pub none' : (i : ℕ) → marked marks i ≡ true → ⊥

-- Why a binding is marked.
pub data Reason (t : Table) (subject : Target) (access : ℕ) (c L : List ℕ) (marks : List Bool) (b : ℕ) : Type 0 where
  for_subject : TargetThrough t.names subject b → Reason t subject access c L marks b
  for_access : ByAccess t access b → Reason t subject access c L marks b
  for_chain : (j : ℕ) → In c j → ByDelegation t j b → Reason t subject access c L marks b
  for_binding : (m : ℕ) → In L m → Wanted t.names marks m b → Reason t subject access c L marks b

-- WHAT IS MARKED is all that a derivation of the chain for the subject needs, of the listed bindings `L`, and nothing else.
pub record AllMarked (t : Table) (subject : Target) (access : ℕ) (c L : List ℕ) (marks : List Bool) : Type 0 where
  pub by_subject : (b : ℕ) → TargetThrough t.names subject b → marked marks b ≡ true
  pub by_access : (b : ℕ) → ByAccess t access b → marked marks b ≡ true
  pub by_chain : (j b : ℕ) → In c j → ByDelegation t j b → marked marks b ≡ true
  pub by_bindings : (m : ℕ) (x : Binding) → In L m → marked marks m ≡ true → At t.names.bindings m x → (b : ℕ) → TargetThrough t.names x.target b → marked marks b ≡ true
  pub why : (b : ℕ) → marked marks b ≡ true → Reason t subject access c L marks b
