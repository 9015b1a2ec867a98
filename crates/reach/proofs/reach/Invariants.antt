-- `reach` goes through rounds until one changes nothing; each other round leaves less to rise.
use mathlib.Core.Path.{◌≡◌}
use Prim.Native.Nat.{◌+◌}
use lib.ListN.{length}
use Rattle.reach.specs.Edges.{froms, tos, depths_of}
use Rattle.reach.specs.Rounds.{spare}
use Rattle.reach.proofs.RoundsLaws.{as_number, Rounds}
use Rattle.reach.proofs.reach.Given as goal

abbrev pub invariant-loop-rose : goal.invariant-loop-rose
invariant-loop-rose l = Rounds (froms l.edges) (tos l.edges) (depths_of l.edges) l.initial.best l.best l.by l.rose × (length l.by ≡ length l.initial.by)

abbrev pub decreases-loop-rose : goal.decreases-loop-rose
decreases-loop-rose l = spare l.best + as_number l.rose
