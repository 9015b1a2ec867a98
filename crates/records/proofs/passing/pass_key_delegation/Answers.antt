-- `pass_key_delegation`: the writer, and then from the owner on.
use Rattle.std.proofs.lemmas.Option.{IfSome_then}
use Rattle.records.proofs.PassingLaws.{delegation_sifts}
use Rattle.records.proofs.passing.pass_key_delegation.Goals as goal

pub returns : goal.returns
returns c = IfSome_then c.pass_from_owner.result c.pass_from_owner.ensures (λ passed p. delegation_sifts _ _ _ _ _ _ c.in_ok-middle.ensures p)
