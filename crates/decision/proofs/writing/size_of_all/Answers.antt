-- `size_of_all` takes the sum.
use native.Mathlib.Omega.{arith}
use Rattle.decision.proofs.WritingLaws.{summed_start, summed_on, summed_end, sum_fits}
use Rattle.decision.proofs.writing.size_of_all.Goals as goal

pub loop-x-init : goal.loop-x-init
loop-x-init c = summed_start _

pub overflow_add-sum : goal.overflow_add-sum
overflow_add-sum c = omega (arith, sum_fits _ _ _ _ _ c.loop-x.invariant c.loop-x-test.true c.requires c.size_of-sum.ensures)

pub loop-x-preserved : goal.loop-x-preserved
loop-x-preserved c = summed_on _ _ _ _ c.loop-x.invariant c.loop-x-test.true c.size_of-sum.ensures

pub returns : goal.returns
returns c = summed_end _ _ _ c.loop-x.invariant c.loop-x-test.false
