-- `find_space` finds the key first in the row of keys, or nowhere.
use Rattle.table.proofs.FindingLaws.{space_here, space_nowhere}
use Rattle.table.proofs.finding.find_space.Goals as goal

pub returns-in_err-number : goal.returns-in_err-number
returns-in_err-number c = rw c.from_residual.ensures (space_nowhere _ _ c.in_err-number.ensures)

pub returns : goal.returns
returns c = space_here c.args.keys.now _ _ c.in_ok-number.ensures.there c.in_ok-number.ensures.here
