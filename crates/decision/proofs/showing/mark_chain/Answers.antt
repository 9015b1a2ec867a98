-- `mark_chain` takes one delegation after the other.
use Rattle.decision.proofs.ShowingLaws.{marking_on}
use Rattle.decision.proofs.showing.mark_chain.Goals as goal

pub loop-j-preserved : goal.loop-j-preserved
loop-j-preserved c = marking_on _ _ _ _ _ _ c.loop-j.invariant c.loop-j-test.true c.mark_delegation.auto.marks c.mark_delegation.ensures
