-- `pass_delegation`: its parts, one behind the other.
use Rattle.std.proofs.lemmas.Option.{IfSome_then}
use Rattle.records.proofs.PassingLaws.{delegation_passes}
use Rattle.records.proofs.passing.pass_delegation.Goals as goal

pub returns : goal.returns
returns c = IfSome_then c.pass_depth.result c.pass_depth.ensures (λ next d. delegation_passes _ _ _ _ _ c.in_ok-at1.ensures _ _ c.in_ok-at2.ensures c.in_ok-at3.ensures c.in_ok-at4.ensures d)
