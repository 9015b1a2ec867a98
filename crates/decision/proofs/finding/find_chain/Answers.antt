-- `find_chain` draws the edges, and settles over them.
use native.Mathlib.Omega.{arith}
use lib.Seq.{length-take-le}
use Rattle.decision.proofs.finding.find_chain.Goals as goal

pub settle-requires : goal.settle-requires
settle-requires c = (c.requires.0, c.requires.2, c.requires.3, c.draw_all-m.ensures.drawn, (let n = length-take-le c.draw_all-m.result c.draw_all-m.new.edges (omega (arith, c.draw_all-m.ensures.few, c.draw_all-m.auto.edges, c.requires.3, c.requires.4)) in omega (arith, n, c.draw_all-m.ensures.few, c.requires.3)), c.requires.5)
