-- `collect_codes` goes through the places of the access records, of which each can be read, and takes each.
use Rattle.keytable.specs.Keeping.{asked_at}
use Rattle.keytable.specs.Matching.{key_request_of, Given}
use Rattle.keytable.proofs.collecting.collect_codes.Given as goal

abbrev pub invariant-loop-place : goal.invariant-loop-place
invariant-loop-place l = Given (asked_at l.kept.table.now (key_request_of l.kept.request).asked) (key_request_of l.kept.request).asked l.nodes l.place-index l.best
