-- `read_records` goes on as `many` of them does, one after the other, and keeps the places of those that are for what is asked.
use lib.ListN.{length}
use Rattle.keytable.specs.Matching.{key_request_of}
use Rattle.keytable.proofs.SiftingLaws.{Sifting}
use Rattle.keytable.proofs.loading.read_records.Given as goal

abbrev pub invariant-loop : goal.invariant-loop
invariant-loop g l = Sifting g.R.KeyRecord.reader g.met.R.KeyRecord.walks (g.R.KeyRecord.asked (key_request_of l.request).asked) l.table l.count l.from (length l.initial.places) l.places l.at l.counter l.n
