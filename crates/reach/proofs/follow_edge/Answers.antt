-- `follow_edge` raises a node to what the edge gives, where that is more.
use native.Mathlib.Omega.{arith}
use Rattle.reach.proofs.RoundsLaws.{near_there, far_there, number_fits, turn_quiet, turn_raised}
use Rattle.reach.proofs.follow_edge.Goals as goal

pub bounds-best-near : goal.bounds-best-near
bounds-best-near c = near_there _ _ _ c.requires.2 c.requires.0 _ c.from_of-near.ensures

pub bounds-best-far : goal.bounds-best-far
bounds-best-far c = far_there _ _ _ c.requires.2 c.requires.0 _ c.to_of-far.ensures

pub returns-then-code-best : goal.returns-then-code-best
returns-then-code-best c = turn_quiet _ _ _ _ _ _ _ _ _ c.from_of-near.ensures c.to_of-far.ensures c.depth_of.ensures c.step_code-code.ensures c.if-code-best.true

pub bounds-best-far-2 : goal.bounds-best-far-2
bounds-best-far-2 c = far_there _ _ _ c.requires.2 c.requires.0 _ c.to_of-far.ensures

pub overflow_cast-by : goal.overflow_cast-by
overflow_cast-by c = omega (arith, number_fits _ _ _ c.requires.2 c.requires.0)

pub bounds-by-far : goal.bounds-by-far
bounds-by-far c = omega (arith, far_there _ _ _ c.requires.2 c.requires.0 _ c.to_of-far.ensures, c.requires.1.room)

pub returns : goal.returns
returns c = turn_raised _ _ _ _ _ _ _ _ _ c.from_of-near.ensures c.to_of-far.ensures c.depth_of.ensures c.step_code-code.ensures c.if-code-best.false
