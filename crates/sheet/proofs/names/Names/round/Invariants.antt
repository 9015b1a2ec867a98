-- `round` takes one turn for each binding.
use mathlib.Core.Path.{◌≡◌}
use lib.ListN.{length}
use Rattle.table.specs.ReadTable.{table_at}
use Rattle.sheet.specs.Listings.{Waiting, Round}
use Rattle.sheet.proofs.names.Names.round.Given as goal

abbrev pub invariant-loop-i : goal.invariant-loop-i
invariant-loop-i l = Round (table_at l.self.table.now).names l.listed l.sheet l.order l.i l.n × Waiting (table_at l.self.table.now).names l.sheet l.waits × (length l.sheet ≡ length l.initial.sheet) × (length l.order ≡ length l.initial.order) × (length l.waits ≡ length l.initial.waits)
