-- A good table with its index, and where each of its access records and delegations stands.
use Rattle.std.specs.Prelude.{◌≡◌, List, ℕ, length}
use Rattle.std.proofs.Props.{props}
use Rattle.rules.specs.Tables.{Table}
use Rattle.rules.specs.Ranges.{Good}
use Rattle.records.specs.Accesses.{access_record}
use Rattle.records.specs.Delegations.{delegation_record}
use Rattle.table.specs.ReadTable.{table_at}
use Rattle.table.specs.Kept.{Standing}
use Rattle.sheet.specs.Finds.{Index}
use Rattle.sheet.specs.Known.{GoodTarget-prop, Index-prop, Standing-prop}

pub record Held (s keys names access_places delegation_places : List ℕ) : Type 0 where
  pub good : Good (table_at s)
  pub index : Index (table_at s).names keys names
  pub access_count : length access_places ≡ length (table_at s).accesses
  pub delegation_count : length delegation_places ≡ length (table_at s).delegations
  pub accesses : Standing (access_record (length keys)) s access_places (table_at s).accesses
  pub delegations : Standing (delegation_record (length keys)) s delegation_places (table_at s).delegations

-- ---- it holds in one way only
Good-prop : (t : Table) → IsProp (Good t)
Good-prop t = hlevel (GoodTarget-prop, props)

pub Held-prop : (s keys names access_places delegation_places : List ℕ) → IsProp (Held s keys names access_places delegation_places)
Held-prop s keys names access_places delegation_places = hlevel (
  Good-prop (table_at s),
  Index-prop (table_at s).names keys names,
  Standing-prop (hlevel props) (access_record (length keys)) s access_places (table_at s).accesses,
  Standing-prop (hlevel props) (delegation_record (length keys)) s delegation_places (table_at s).delegations,
  props,
)
