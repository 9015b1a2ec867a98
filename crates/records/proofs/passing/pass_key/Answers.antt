-- `pass_key` passes what is seen.
use Rattle.records.proofs.PassingLaws.{key_seen}
use Rattle.records.proofs.passing.pass_key.Goals as goal

pub returns : goal.returns
returns c = (_, key_seen _ _ _ _ c.in_ok-next.ensures)
