-- The offset of a table's fault fits in 32 bits.
use Rattle.kernel.proofs.FitsLaws.{fault_fits}
use Rattle.kernel.proofs.PlacesLaws.{table_fault}
use Rattle.review.proofs.opening.open.Goals as goal

pub of_fault-requires : goal.of_fault-requires
of_fault-requires g c = fault_fits c.in-Err.fault (table_fault _ _ c.in-Err.ensures)
