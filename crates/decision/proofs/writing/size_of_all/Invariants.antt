-- `size_of_all` takes the sum.
use Rattle.decision.proofs.WritingLaws.{Summed}
use Rattle.decision.proofs.writing.size_of_all.Given as goal

abbrev pub invariant-loop-x : goal.invariant-loop-x
invariant-loop-x l = Summed l.numbers l.sum l.x-index
