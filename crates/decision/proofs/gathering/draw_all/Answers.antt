-- `draw_all` takes one delegation after the other.
use native.Mathlib.Omega.{arith}
use Rattle.decision.proofs.DrawingLaws.{drawn_start, drawn_all}
use Rattle.decision.proofs.gathering.draw_all.Goals as goal

pub loop-j-init : goal.loop-j-init
loop-j-init c = (drawn_start _ _ _ _ c.args.edges.now, omega arith)

pub returns-clause-drawn : goal.returns-clause-drawn
returns-clause-drawn c = drawn_all _ _ _ _ _ _ _ c.loop-j-test.false c.loop-j.auto.j-end c.loop-j.invariant.0
