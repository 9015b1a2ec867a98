-- `pass_eights`: those before the next eight are others.
use Prim.Native.Nat.{◌*◌}
use Rattle.records.specs.Rows.{Passed}
use Rattle.records.proofs.rows.pass_eights.Given as goal

abbrev pub invariant-loop-k : goal.invariant-loop-k
invariant-loop-k l = Passed l.row l.number (8 * l.k)
