-- `read_listed` goes on as `many listed_number` does, with a mark for each number that was seen.
use Rattle.records.proofs.DerivationBytesLaws.{Listing}
use Rattle.records.proofs.derivations.read_listed.Given as goal

abbrev pub invariant-loop : goal.invariant-loop
invariant-loop l = Listing l.s l.count l.from l.seen l.at l.counter
