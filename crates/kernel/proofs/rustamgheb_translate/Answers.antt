-- The record is that of the answer, whose values fit because it is promised.
use Rattle.kernel.proofs.FitsLaws.{translated_fits}
use Rattle.kernel.proofs.rustamgheb_translate.Goals as goal

pub of_translated-requires : goal.of_translated-requires
of_translated-requires c = translated_fits (record { small = λ i. (c.type_inv.table i).fits }) c.translate.ensures
