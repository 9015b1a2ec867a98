-- `mark` sets the mark of the number.
use mathlib.Core.Path.{ap}
use Prim.Native.Nat.{ℕ}
use lib.ListN.{set}
use Rattle.records.proofs.rows.mark.Goals as goal

pub returns : goal.returns
returns c = ap (λ (k : ℕ). set c.args.marks.now k 1) c.mark_of.ensures.0
