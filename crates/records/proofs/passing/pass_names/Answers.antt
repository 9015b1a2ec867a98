-- `pass_names`: where the names that are left are good, all are.
use Rattle.records.proofs.PassingLaws.{names_start, names_on, names_end}
use Rattle.records.proofs.passing.pass_names.Goals as goal

pub loop-init : goal.loop-init
loop-init c = names_start _ _ _

pub loop-preserved : goal.loop-preserved
loop-preserved c = names_on _ _ _ _ _ c.loop.invariant _ _ c.loop-test.true c.in_ok-next.ensures

pub returns : goal.returns
returns c = names_end _ _ _ _ _ c.loop.invariant c.loop-test.false
