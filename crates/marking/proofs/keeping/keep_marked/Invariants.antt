-- `keep_marked` looks at one listed number after the other.
use Rattle.marking.specs.Kept.{Kept}
use Rattle.marking.proofs.keeping.keep_marked.Given as goal

abbrev pub invariant-loop-i : goal.invariant-loop-i
invariant-loop-i l = Kept l.marks l.initial.order l.i l.order l.kept
