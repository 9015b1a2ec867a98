-- `round` follows the edges one after the other.
use Rattle.reach.specs.Edges.{froms, tos, depths_of}
use Rattle.reach.specs.Rounds.{Round}
use Rattle.reach.proofs.round.Given as goal

abbrev pub invariant-loop-e : goal.invariant-loop-e
invariant-loop-e l = Round (froms l.edges) (tos l.edges) (depths_of l.edges) l.initial.best l.initial.by l.e l.best l.by l.rose
