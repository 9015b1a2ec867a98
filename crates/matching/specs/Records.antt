-- The records of a good table, as code holds them.
use Rattle.std.specs.Prelude.{◌≡◌, ℕ, ◌<◌}
use Rattle.rules.specs.Lists.{At}
use Rattle.rules.specs.Tables.{AccessRecord, Delegation, Table}
use Rattle.records.specs.Accesses.{access_value}
use Rattle.records.specs.Delegations.{delegation_value}
use Rattle.records.specs.declared.accesses.Access.{Access}
use Rattle.records.specs.declared.delegations.Delegation.{Delegation as DelegationValue}
use Rattle.sheet.specs.Finds.{Fitting}

-- Access record number `i` of the table; its space is one of so many, and its path has its form.
pub record HoldsAccess (t : Table) (spaces i : ℕ) (v : Access) : Type 0 where
  pub entry : AccessRecord
  pub at : At t.accesses i entry
  pub is : v ≡ access_value entry
  pub owner : v.owner.0 < spaces
  pub path : Fitting v.path

-- Delegation number `j` of the table; its space is one of so many, and its paths have their form.
pub record HoldsDelegation (t : Table) (spaces j : ℕ) (v : DelegationValue) : Type 0 where
  pub entry : Delegation
  pub at : At t.delegations j entry
  pub is : v ≡ delegation_value entry
  pub writer : v.writer.0 < spaces
  pub owner : Fitting v.owner
  pub delegatee : Fitting v.delegatee
