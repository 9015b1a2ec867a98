-- `collect_nodes` goes through the places of the delegations, of which each can be read, and takes each.
use Rattle.keytable.specs.Keeping.{asked_at}
use Rattle.keytable.specs.Matching.{key_request_of}
use Rattle.keytable.proofs.CollectingLaws.{Collecting}
use Rattle.keytable.proofs.collecting.collect_nodes.Given as goal

abbrev pub invariant-loop-place : goal.invariant-loop-place
invariant-loop-place l = Collecting (asked_at l.kept.table.now (key_request_of l.kept.request).asked) (key_request_of l.kept.request).asked l.initial.nodes l.nodes l.place-index
