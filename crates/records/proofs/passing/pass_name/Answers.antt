-- `pass_name`: the space, and then the path.
use Rattle.std.proofs.lemmas.Option.{IfSome_then}
use Rattle.records.proofs.PassingLaws.{passes_both}
use Rattle.records.proofs.passing.pass_name.Goals as goal

pub returns : goal.returns
returns c = IfSome_then c.pass_path.result c.pass_path.ensures (λ next p. passes_both _ _ _ _ _ _ c.in_ok-middle.ensures p)
