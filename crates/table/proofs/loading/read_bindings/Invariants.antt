-- `read_bindings` goes on as `many` of bindings does, and keeps each name packed, and its place.
use lib.ListN.{length}
use Rattle.records.specs.Bindings.{is_bound}
use Rattle.records.proofs.RecordsForm.{binding_walks}
use Rattle.table.proofs.BindingsLaws.{Binds}
use Rattle.table.proofs.loading.read_bindings.Given as goal

abbrev pub invariant-loop-i : goal.invariant-loop-i
invariant-loop-i l = Binds l.spaces (λ earlier. binding_walks l.spaces (is_bound earlier)) l.table l.count l.from (length l.initial.names) (length l.initial.places) (length l.initial.marks) l.names l.places l.marks l.at l.i
