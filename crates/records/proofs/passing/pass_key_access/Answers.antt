-- `pass_key_access`: from the owner on.
use Rattle.std.proofs.lemmas.Option.{IfSome_then}
use Rattle.records.proofs.PassingLaws.{access_sifts}
use Rattle.records.proofs.passing.pass_key_access.Goals as goal

pub returns : goal.returns
returns c = IfSome_then c.pass_from_owner.result c.pass_from_owner.ensures (λ passed p. access_sifts _ _ _ _ _ p)
