-- `read`: what was gathered so far, and what stands behind it.
use Rattle.wire.proofs.ReadingLaws.{Gathered}
use Rattle.wire.proofs.read.Given as goal

abbrev pub invariant-loop-i : goal.invariant-loop-i
invariant-loop-i l = Gathered l.rest l.value l.unit l.i
