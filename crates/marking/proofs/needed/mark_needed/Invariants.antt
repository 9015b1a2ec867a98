-- `mark_needed` passes the listed bindings from the last to the first.
use Rattle.table.specs.ReadTable.{table_at}
use Rattle.marking.proofs.NeededLaws.{Passed}
use Rattle.marking.proofs.needed.mark_needed.Given as goal

abbrev pub invariant-loop-n : goal.invariant-loop-n
invariant-loop-n l = Passed (table_at l.names.table.now).names l.order l.initial.marks l.n l.marks
