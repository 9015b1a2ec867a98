-- `mark_chain` takes one delegation after the other.
use Rattle.table.specs.ReadTable.{table_at}
use Rattle.decision.proofs.ShowingLaws.{Marking}
use Rattle.decision.proofs.showing.mark_chain.Given as goal

abbrev pub invariant-loop-j : goal.invariant-loop-j
invariant-loop-j l = Marking (table_at l.records.table.now) l.chain l.initial.marks l.marks l.j-index
