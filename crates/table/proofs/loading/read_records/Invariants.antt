-- `read_records` goes on as `many` of them does, and keeps their places.
use lib.ListN.{length}
use Rattle.table.proofs.PlacingLaws.{Placing}
use Rattle.table.proofs.loading.read_records.Given as goal

abbrev pub invariant-loop-i : goal.invariant-loop-i
invariant-loop-i g l = Placing (g.R.Listed.reader l.spaces) (g.met.R.Listed.walks l.spaces) l.table l.count l.from (length l.initial.places) l.places l.at l.i
