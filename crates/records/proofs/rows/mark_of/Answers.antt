-- `mark_of` computes the place of the mark.
use Rattle.records.proofs.RowsLaws.{mark_place}
use Rattle.records.proofs.rows.mark_of.Goals as goal

pub returns : goal.returns
returns c = mark_place _
