-- `pass_names`: where the names that are left are good, all are.
use Rattle.records.proofs.PassingLaws.{Names}
use Rattle.records.proofs.passing.pass_names.Given as goal

abbrev pub invariant-loop : goal.invariant-loop
invariant-loop l = Names l.count l.s l.from l.at l.counter
