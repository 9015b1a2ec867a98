-- `pass_use`: the object, and then the right.
use Rattle.records.proofs.PassingLaws.{use_seen}
use Rattle.records.proofs.passing.pass_use.Goals as goal

pub returns : goal.returns
returns c = (_, use_seen _ _ _ _ _ _ c.in_ok-middle.ensures c.in_ok-next.ensures)
