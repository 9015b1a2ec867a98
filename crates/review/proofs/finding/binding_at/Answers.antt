-- The binding of a good table is read where it stands.
use Rattle.review.proofs.FoundLaws.{binding_read, binding_is}
use Rattle.review.proofs.finding.binding_at.Goals as goal

pub unwrap-requires : goal.unwrap-requires
unwrap-requires c = binding_read _ _ _ _ c.args.names.now.known _ c.requires _ (rw c.from-place.ensures at c.read_binding.ensures)

pub returns : goal.returns
returns c = binding_is _ _ _ _ c.args.names.now.known _ c.requires _ (rw c.from-place.ensures at c.read_binding.ensures) _ c.unwrap.ensures
