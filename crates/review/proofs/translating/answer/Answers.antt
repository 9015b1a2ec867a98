-- The key table that was written stands within the buffer.
use mathlib.Core.Path.{sym}
use native.Mathlib.Omega.{arith}
use lib.Seq.{length-take-le}
use Rattle.kernel.proofs.WrittenLaws.{key_table_written}
use Rattle.review.proofs.translating.answer.Goals as goal

pub slice_bounds-out-end : goal.slice_bounds-out-end
slice_bounds-out-end g c = omega (arith, key_table_written (record { small = λ i. (c.type_inv.table i).fits }) c.rustamgheb_translate-told.ensures)

pub slice_bounds-done-end : goal.slice_bounds-done-end
slice_bounds-done-end g c = sym (length-take-le _ _ (omega (arith, key_table_written (record { small = λ i. (c.type_inv.table i).fits }) c.rustamgheb_translate-told.ensures)))
