-- The derivation that was written stands within the buffer.
use mathlib.Core.Path.{sym}
use native.Mathlib.Omega.{arith}
use lib.Seq.{length-take-le}
use Rattle.kernel.proofs.WrittenLaws.{derivation_written}
use Rattle.review.proofs.deciding.answer.Goals as goal

pub slice_bounds-derivation-end : goal.slice_bounds-derivation-end
slice_bounds-derivation-end g c = omega (arith, derivation_written c.rustamgheb_decide-told.ensures)

pub slice_bounds-grant-end : goal.slice_bounds-grant-end
slice_bounds-grant-end g c = sym (length-take-le _ _ (omega (arith, derivation_written c.rustamgheb_decide-told.ensures)))
