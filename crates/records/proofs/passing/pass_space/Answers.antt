-- `pass_space` passes a number that is below the count.
use Rattle.records.proofs.PassingLaws.{space_seen}
use Rattle.records.proofs.passing.pass_space.Goals as goal

pub returns : goal.returns
returns c = (_, space_seen _ _ _ _ _ _ c.in_ok-space.ensures _ c.if-spaces-space.false)
