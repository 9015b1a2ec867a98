-- `mark_name` marks from the key of the space.
use Rattle.marking.proofs.ThroughLaws.{name_marked}
use Rattle.marking.proofs.through.mark_name.Goals as goal

pub returns : goal.returns
returns c = λ t index exact. name_marked t _ _ _ index exact _ _ c.requires.2 _ _ (c.mark.ensures t index)
