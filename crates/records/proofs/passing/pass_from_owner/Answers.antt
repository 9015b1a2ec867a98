-- `pass_from_owner`: its parts, one behind the other, and the test of the first three numbers.
use Rattle.records.proofs.PassingLaws.{owner_sifts}
use Rattle.records.proofs.passing.pass_from_owner.Goals as goal

pub returns : goal.returns
returns c = owner_sifts _ _ _ _ _ _ _ _ _ _ _ c.in_ok-who.ensures c.in_ok-object.ensures c.in_ok-right.ensures c.in_ok-at4.ensures c.in_ok-next.ensures _ c.is_for.ensures
