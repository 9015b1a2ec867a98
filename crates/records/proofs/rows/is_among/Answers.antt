-- `is_among` finds it, or not.
use mathlib.Core.Path.{◌∙◌}
use Rattle.records.proofs.RowsLaws.{first_among}
use Rattle.records.proofs.rows.is_among.Goals as goal

pub returns : goal.returns
returns c = c.is_some.ensures ∙ first_among _ _ _ c.find_first.ensures
