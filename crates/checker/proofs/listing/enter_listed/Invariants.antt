-- `enter_listed` enters one listed binding after the other.
use lib.ListN.{length}
use Rattle.table.specs.ReadTable.{table_at}
use Rattle.checker.proofs.EnteringLaws.{Entering}
use Rattle.checker.proofs.listing.enter_listed.Given as goal

abbrev pub invariant-loop : goal.invariant-loop
invariant-loop l = Entering (table_at l.names.table.now).names l.derivation l.from l.count (length l.initial.sheet) l.sheet l.at l.counter
