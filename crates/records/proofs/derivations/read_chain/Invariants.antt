-- `read_chain` goes on as `many chain_number` does.
use Rattle.records.proofs.DerivationBytesLaws.{Chaining}
use Rattle.records.proofs.derivations.read_chain.Given as goal

abbrev pub invariant-loop : goal.invariant-loop
invariant-loop l = Chaining l.s l.count l.from l.at l.counter
