-- The key table that is told of stands within the buffer.
use mathlib.Core.Path.{sym}
use native.Mathlib.Omega.{arith}
use lib.Seq.{length-take-le}
use Rattle.kernel.proofs.WrittenLaws.{key_table_written}
use Rattle.specimen.proofs.translations.translation_row.Goals as goal

pub slice_bounds-bytes-end : goal.slice_bounds-bytes-end
slice_bounds-bytes-end g c = omega (arith, key_table_written (record { small = λ i. (c.type_inv.table i).fits }) c.rustamgheb_translate.ensures)

pub slice_bounds-bytes-end-2 : goal.slice_bounds-bytes-end-2
slice_bounds-bytes-end-2 g c = sym (length-take-le _ _ (omega (arith, key_table_written (record { small = λ i. (c.type_inv.table i).fits }) c.rustamgheb_translate.ensures)))

pub returns : goal.returns
returns g c = omega (arith, key_table_written (record { small = λ i. (c.type_inv.table i).fits }) c.rustamgheb_translate.ensures)
