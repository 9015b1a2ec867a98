-- `read_version` passes on the fault of the number, and else holds it against the version wanted.
use Rattle.records.proofs.ParsedLaws.{same_got, same_bad}
use Rattle.table.proofs.AnswersLaws.{as_after, as_fault, after_passed_on}
use Rattle.table.proofs.SectionsLaws.{version_fails, version_is, version_not}
use Rattle.table.proofs.loading.read_version.Goals as goal

pub returns-in_err-number : goal.returns-in_err-number
returns-in_err-number c = after_passed_on c.from_residual.ensures.1 (version_fails _ _ _ (same_bad _ c.in_err-number.ensures))

pub returns-then-number-wanted : goal.returns-then-number-wanted
returns-then-number-wanted c = rw c.fault_at.ensures (as_fault (version_not _ _ _ _ (same_got _ c.in_ok-number.ensures) c.if-number-wanted.true))

pub returns : goal.returns
returns c = as_after (version_is _ _ _ _ (same_got _ c.in_ok-number.ensures) c.if-number-wanted.false)
