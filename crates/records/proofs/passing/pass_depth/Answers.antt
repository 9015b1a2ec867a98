-- `pass_depth` passes what is seen.
use native.Mathlib.Omega.{arith}
use Rattle.records.proofs.PassingLaws.{depth_seen}
use Rattle.records.proofs.passing.pass_depth.Goals as goal

pub returns : goal.returns
returns c = (_, depth_seen _ _ _ _ _ _ c.in_ok-next.ensures (omega arith))
