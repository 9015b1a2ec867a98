-- `read_spaces` goes on as `many space_key` does, and keeps each key.
use lib.ListN.{length}
use Rattle.table.proofs.SpacesLaws.{Spaced}
use Rattle.table.proofs.loading.read_spaces.Given as goal

abbrev pub invariant-loop-i : goal.invariant-loop-i
invariant-loop-i l = Spaced l.table l.count l.from (length l.initial.keys) l.keys l.at l.i
