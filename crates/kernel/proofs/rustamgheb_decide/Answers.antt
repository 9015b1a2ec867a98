-- The record is that of the answer, whose values fit because it is promised.
use Rattle.kernel.proofs.FitsLaws.{decided_fits}
use Rattle.kernel.proofs.rustamgheb_decide.Goals as goal

pub of_decided-requires : goal.of_decided-requires
of_decided-requires c = decided_fits c.decide.ensures
