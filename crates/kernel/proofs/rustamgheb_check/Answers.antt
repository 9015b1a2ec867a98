-- The record is that of the answer, whose values fit because it is promised.
use Rattle.kernel.proofs.FitsLaws.{checked_fits}
use Rattle.kernel.proofs.rustamgheb_check.Goals as goal

pub of_checked-requires : goal.of_checked-requires
of_checked-requires c = checked_fits c.check.ensures
