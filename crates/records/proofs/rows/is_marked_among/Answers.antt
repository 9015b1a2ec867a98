-- `is_marked_among` looks for the number only where its mark stands.
use borrow.Author.Tests.{eq-eqb}
use Rattle.records.proofs.RowsLaws.{unmarked}
use Rattle.records.proofs.rows.is_marked_among.Goals as goal

pub returns-else-marks-mark_of-ne0 : goal.returns-else-marks-mark_of-ne0
returns-else-marks-mark_of-ne0 c = rw (eq-eqb _ _ c.if-marks-mark_of-ne0.false) (unmarked _ _ _ _ c.requires c.mark_of.ensures.0 c.if-marks-mark_of-ne0.false)
