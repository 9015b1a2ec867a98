-- `fill_all` goes on until a round lists no more, or all are listed.
use mathlib.Core.Path.{◌≡◌}
use Prim.Native.Nat.{◌-◌}
use lib.ListN.{length}
use Rattle.table.specs.ReadTable.{table_at}
use Rattle.sheet.specs.Listings.{Listing, Waiting}
use Rattle.sheet.proofs.names.Names.fill_all.Given as goal

abbrev pub invariant-loop-listed : goal.invariant-loop-listed
invariant-loop-listed l = Listing (table_at l.self.table.now).names l.sheet l.order l.listed × Waiting (table_at l.self.table.now).names l.sheet l.waits × (length l.sheet ≡ length l.initial.sheet) × (length l.order ≡ length l.initial.order) × (length l.waits ≡ length l.initial.waits)

abbrev pub decreases-loop-listed : goal.decreases-loop-listed
decreases-loop-listed l = length l.self.packed.now - l.listed
