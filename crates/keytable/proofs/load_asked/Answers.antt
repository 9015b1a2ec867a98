-- `load_asked` reads the version and the two sections one behind the other, and looks for spare bytes.
use Rattle.table.proofs.LoadingLaws.{besides_passed}
use Rattle.table.proofs.SectionsLaws.{version_within}
use Rattle.keytable.specs.Keeping.{kept_in}
use Rattle.keytable.proofs.LoadingLaws.{table_long, version_bad, accesses_bad, delegations_bad, table_more, table_found}
use Rattle.keytable.proofs.load_asked.Goals as goal

pub returns-then-table-gt-MOST_KEY_TABLE : goal.returns-then-table-gt-MOST_KEY_TABLE
returns-then-table-gt-MOST_KEY_TABLE c = let both = table_long _ _ _ _ c.if-table-gt-MOST_KEY_TABLE.true in rw c.fault_at.ensures (record { read = both.0; kept = both.1 })

pub returns-in_err-begin : goal.returns-in_err-begin
returns-in_err-begin c = let both = besides_passed (kept_in _) _ c.from_residual.ensures.1 (version_bad _ _ _ _ c.if-table-gt-MOST_KEY_TABLE.false _ c.in_err-begin.ensures) in record { read = both.0; kept = both.1 }

pub load_section-requires : goal.load_section-requires
load_section-requires c = (c.requires.0, version_within _ _ _ c.in_ok-begin.ensures, c.if-table-gt-MOST_KEY_TABLE.false)

pub returns-in_err-given : goal.returns-in_err-given
returns-in_err-given c = let both = besides_passed (kept_in _) _ c.from_residual-in_err-given.ensures.1 (accesses_bad _ _ _ _ c.if-table-gt-MOST_KEY_TABLE.false _ c.in_ok-begin.ensures _ c.in_err-given.ensures.read) in record { read = both.0; kept = both.1 }

pub returns-in_err-handed : goal.returns-in_err-handed
returns-in_err-handed c = let both = besides_passed (kept_in _) _ c.from_residual-in_err-handed.ensures.1 (delegations_bad _ _ _ _ c.if-table-gt-MOST_KEY_TABLE.false _ c.in_ok-begin.ensures _ _ c.in_ok-given.ensures.read _ c.in_err-handed.ensures.read) in record { read = both.0; kept = both.1 }

pub returns-then-end-table : goal.returns-then-end-table
returns-then-end-table c = let both = table_more _ _ _ _ c.if-table-gt-MOST_KEY_TABLE.false _ c.in_ok-begin.ensures _ _ c.in_ok-given.ensures.read _ _ c.in_ok-handed.ensures.read c.if-end-table.true in rw c.fault_at-then-end-table.ensures (record { read = both.0; kept = both.1 })

pub returns : goal.returns
returns c = let both = table_found _ _ _ _ c.if-table-gt-MOST_KEY_TABLE.false _ c.in_ok-begin.ensures _ _ c.in_ok-given.ensures.read _ _ c.in_ok-handed.ensures.read c.if-end-table.false c.in_ok-given.ensures.kept c.in_ok-handed.ensures.kept in record { read = both.0; kept = both.1 }
