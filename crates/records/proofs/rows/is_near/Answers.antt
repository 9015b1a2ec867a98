-- `is_near` compares the eight numbers one by one.
use Rattle.records.proofs.RowsLaws.{eight_among}
use Rattle.records.proofs.rows.is_near.Goals as goal

pub returns : goal.returns
returns c = eight_among _ _ _ c.requires
