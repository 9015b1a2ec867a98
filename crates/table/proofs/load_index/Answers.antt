-- `load_index` reads the version and the four sections one behind the other, and looks for spare bytes.
use native.Mathlib.Omega.{arith}
use Rattle.records.specs.Bindings.{is_bound}
use Rattle.records.proofs.RecordsForm.{binding_walks, access_walks}
use Rattle.table.specs.ReadTable.{loaded_of}
use Rattle.table.proofs.LoadingLaws.{besides_passed}
use Rattle.table.proofs.SpacesLaws.{spaces_walk}
use Rattle.table.proofs.SectionsLaws.{version_within, section_within}
use Rattle.table.proofs.TableLaws.{table_long, version_bad, spaces_bad, bindings_bad, accesses_bad, delegations_bad, table_more, table_found}
use Rattle.table.proofs.load_index.Goals as goal

pub returns-then-table-gt-MOST_TABLE : goal.returns-then-table-gt-MOST_TABLE
returns-then-table-gt-MOST_TABLE c = let both = table_long _ _ _ _ _ _ c.if-table-gt-MOST_TABLE.true in rw c.fault_at.ensures (record { read = both.0; kept = both.1 })

pub returns-in_err-at1 : goal.returns-in_err-at1
returns-in_err-at1 c = let both = besides_passed loaded_of _ c.from_residual.ensures.1 (version_bad _ _ _ _ _ _ c.if-table-gt-MOST_TABLE.false _ c.in_err-at1.ensures) in record { read = both.0; kept = both.1 }

pub returns-in_err-spaces : goal.returns-in_err-spaces
returns-in_err-spaces c = let both = besides_passed loaded_of _ c.from_residual-in_err-spaces.ensures.1 (spaces_bad _ _ _ _ _ _ c.if-table-gt-MOST_TABLE.false _ c.in_ok-at1.ensures _ c.in_err-spaces.ensures.read) in record { read = both.0; kept = both.1 }

pub load_bindings-requires : goal.load_bindings-requires
load_bindings-requires c = let w = (section_within _ _ spaces_walk _ _ _ _ (version_within _ _ _ c.in_ok-at1.ensures) c.in_ok-spaces.ensures.read) in (c.requires.1, c.requires.2, w.0, w.1, c.if-table-gt-MOST_TABLE.false, c.requires.4)

pub returns-in_err-bound : goal.returns-in_err-bound
returns-in_err-bound c = let both = besides_passed loaded_of _ c.from_residual-in_err-bound.ensures.1 (bindings_bad _ _ _ _ _ _ c.if-table-gt-MOST_TABLE.false _ c.in_ok-at1.ensures _ _ c.in_ok-spaces.ensures.read _ c.in_err-bound.ensures.read) in record { read = both.0; kept = both.1 }

pub load_records-requires : goal.load_records-requires
load_records-requires c = (c.requires.3, (section_within _ _ (λ earlier. binding_walks _ (is_bound earlier)) _ _ _ _ (section_within _ _ spaces_walk _ _ _ _ (version_within _ _ _ c.in_ok-at1.ensures) c.in_ok-spaces.ensures.read).1 c.in_ok-bound.ensures.read).1, c.if-table-gt-MOST_TABLE.false)

pub returns-in_err-given : goal.returns-in_err-given
returns-in_err-given c = let both = besides_passed loaded_of _ c.from_residual-in_err-given.ensures.1 (accesses_bad _ _ _ _ _ _ c.if-table-gt-MOST_TABLE.false _ c.in_ok-at1.ensures _ _ c.in_ok-spaces.ensures.read _ _ c.in_ok-bound.ensures.read _ c.in_err-given.ensures.read) in record { read = both.0; kept = both.1 }

pub load_records-requires-2 : goal.load_records-requires-2
load_records-requires-2 c = (omega (arith, c.delegations-1.given, c.requires.4), (section_within _ _ (λ earlier. access_walks _) _ _ _ _ (section_within _ _ (λ earlier. binding_walks _ (is_bound earlier)) _ _ _ _ (section_within _ _ spaces_walk _ _ _ _ (version_within _ _ _ c.in_ok-at1.ensures) c.in_ok-spaces.ensures.read).1 c.in_ok-bound.ensures.read).1 c.in_ok-given.ensures.read).1, c.if-table-gt-MOST_TABLE.false)

pub returns-in_err-handed : goal.returns-in_err-handed
returns-in_err-handed c = let both = besides_passed loaded_of _ c.from_residual-in_err-handed.ensures.1 (delegations_bad _ _ _ _ _ _ c.if-table-gt-MOST_TABLE.false _ c.in_ok-at1.ensures _ _ c.in_ok-spaces.ensures.read _ _ c.in_ok-bound.ensures.read _ _ c.in_ok-given.ensures.read _ c.in_err-handed.ensures.read) in record { read = both.0; kept = both.1 }

pub returns-then-end-table : goal.returns-then-end-table
returns-then-end-table c = let both = table_more _ _ _ _ _ _ c.if-table-gt-MOST_TABLE.false _ c.in_ok-at1.ensures _ _ c.in_ok-spaces.ensures.read _ _ c.in_ok-bound.ensures.read _ _ c.in_ok-given.ensures.read _ _ c.in_ok-handed.ensures.read c.if-end-table.true in rw c.fault_at-then-end-table.ensures (record { read = both.0; kept = both.1 })

pub returns : goal.returns
returns c = let both = table_found _ _ _ _ _ _ c.if-table-gt-MOST_TABLE.false _ c.in_ok-at1.ensures _ _ c.in_ok-spaces.ensures.read _ _ c.in_ok-bound.ensures.read _ _ c.in_ok-given.ensures.read _ _ c.in_ok-handed.ensures.read c.in_ok-spaces.ensures.kept c.in_ok-bound.ensures.kept c.in_ok-given.ensures.kept c.in_ok-handed.ensures.kept c.if-end-table.false in record { read = both.0; kept = both.1 }
