-- `round` follows the edges one after the other.
use native.Mathlib.Omega.{arith}
use Rattle.reach.proofs.EdgesLaws.{froms_length}
use Rattle.reach.proofs.RoundsLaws.{round_start, round_edges, round_on, round_end}
use Rattle.reach.proofs.round.Goals as goal

pub loop-e-init : goal.loop-e-init
loop-e-init c = round_start _ _ _ _ _ c.requires.1

pub follow_edge-rose-requires : goal.follow_edge-rose-requires
follow_edge-rose-requires c = (round_edges _ _ _ _ _ _ _ _ _ c.requires.0 c.loop-e.invariant, c.loop-e.invariant.lent, omega arith)

pub loop-e-preserved : goal.loop-e-preserved
loop-e-preserved c = round_on _ _ _ _ _ _ _ _ _ _ _ _ c.requires.0 (omega (arith, froms_length c.args.edges.now)) c.loop-e.invariant c.follow_edge-rose.ensures

pub returns : goal.returns
returns c = round_end _ _ _ _ _ _ _ _ _ c.loop-e.invariant (omega (arith, froms_length c.args.edges.now)) (omega (arith, froms_length c.args.edges.now))
