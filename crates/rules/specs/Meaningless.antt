-- Records that name someone without a meaning.
use Rattle.std.specs.Prelude.{◌⊎◌, List, [], ◌∷◌}
use Rattle.rules.specs.Tables.{Path, AccessRecord, Delegation, NameTable, Table}
use Rattle.rules.specs.Names.{Means}
use Rattle.rules.specs.declared.Key.{Key}
use Rattle.rules.specs.declared.Space.{Space}

abbrev pub MeansNothing : NameTable → Space → Path → Type 0
MeansNothing t S p = (k : Key) → Means t S p k → ⊥

-- The record names someone without a meaning.
abbrev pub IdleAccess : NameTable → AccessRecord → Type 0
IdleAccess t x = MeansNothing t x.owner x.path

abbrev pub IdleDelegation : NameTable → Delegation → Type 0
IdleDelegation t x = MeansNothing t x.writer x.owner_path ⊎ MeansNothing t x.writer x.delegatee_path

-- The second list is the first without some of its idle records.
pub data Without {A : Type 0} (Idle : A → Type 0) : List A → List A → Type 0 where
  done : Without Idle [] []
  stays : {x : A} {l m : List A} → Without Idle l m → Without Idle (x ∷ l) (x ∷ m)
  goes : {x : A} {l m : List A} → Idle x → Without Idle l m → Without Idle (x ∷ l) m

-- The table `u` is `t` without some of its idle records.
pub record WithoutIdle (t u : Table) : Type 0 where
  pub accesses : Without (IdleAccess t.names) t.accesses u.accesses
  pub delegations : Without (IdleDelegation t.names) t.delegations u.delegations
