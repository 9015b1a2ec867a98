-- `step_code`: no step leads on from a code below 2.
use Rattle.reach.proofs.StepLaws.{step_none}
use Rattle.reach.proofs.step_code.Goals as goal

pub returns-then-code-lt2 : goal.returns-then-code-lt2
returns-then-code-lt2 c = step_none _ _ c.if-code-lt2.true
