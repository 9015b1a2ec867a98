-- What the decision wrote stands within the buffer that it was lent.
use mathlib.Core.Path.{sym}
use native.Mathlib.Omega.{arith}
use lib.Seq.{length-take-le}
use Rattle.kernel.proofs.WrittenLaws.{derivation_written}
use Rattle.specimen.proofs.rows.decision_row.Goals as goal

pub slice_bounds-derivation-end : goal.slice_bounds-derivation-end
slice_bounds-derivation-end g c = omega (arith, derivation_written c.rustamgheb_decide-answer.ensures)

pub slice_bounds-written-end : goal.slice_bounds-written-end
slice_bounds-written-end g c = sym (length-take-le _ _ (omega (arith, derivation_written c.rustamgheb_decide-answer.ensures)))
