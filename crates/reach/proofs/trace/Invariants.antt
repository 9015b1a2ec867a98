-- `trace` goes to a greater code with each edge, so the chain has room.
use Rattle.reach.specs.Edges.{froms, tos, depths_of, numbers_of}
use Rattle.reach.proofs.TracingLaws.{Tracing}
use Rattle.reach.proofs.trace.Given as goal

abbrev pub invariant-loop-v : goal.invariant-loop-v
invariant-loop-v l = Tracing (froms l.edges) (tos l.edges) (depths_of l.edges) (numbers_of l.edges) l.start l.best l.roots l.by l.node l.chain l.v l.first

abbrev pub decreases-loop-v : goal.decreases-loop-v
decreases-loop-v l = l.first
