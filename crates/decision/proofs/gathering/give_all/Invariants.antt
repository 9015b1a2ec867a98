-- `give_all` takes one access record after the other.
use Rattle.table.specs.ReadTable.{table_at}
use Rattle.matching.specs.Matching.{asked_of}
use Rattle.decision.specs.Gathering.{GivenSo}
use Rattle.decision.proofs.gathering.give_all.Given as goal

abbrev pub invariant-loop-i : goal.invariant-loop-i
invariant-loop-i l = GivenSo (table_at l.records.table.now) l.sheet (asked_of l.asked.owner l.asked.wanted) l.subject l.i l.best l.roots
