-- `put_numbers` keeps the numbers so far written, one behind the other.
use Rattle.records.proofs.PutLaws.{Putting}
use Rattle.records.proofs.derivations.put_numbers.Given as goal

abbrev pub invariant-loop-number : goal.invariant-loop-number
invariant-loop-number l = Putting l.initial.out l.from l.numbers l.out l.at l.number-index
