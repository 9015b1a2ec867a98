-- `find_first` goes on one by one where the eights end: those before `at` are others.
use Rattle.records.specs.Rows.{Passed}
use Rattle.records.proofs.rows.find_first.Given as goal

abbrev pub invariant-loop-at : goal.invariant-loop-at
invariant-loop-at l = Passed l.row l.number l.at
