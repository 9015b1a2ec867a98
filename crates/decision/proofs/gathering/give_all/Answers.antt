-- `give_all` takes one access record after the other.
use Rattle.decision.proofs.GatheringLaws.{given_all}
use Rattle.decision.proofs.gathering.give_all.Goals as goal

pub returns : goal.returns
returns c = given_all _ _ _ _ _ _ _ _ c.loop-i-test.false c.loop-i.auto.i-end c.loop-i.invariant
