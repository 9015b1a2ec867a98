-- `pass_path`: the length, and then so many names.
use Rattle.std.proofs.lemmas.Option.{IfSome_then}
use Rattle.records.proofs.PassingLaws.{path_passes}
use Rattle.records.proofs.passing.pass_path.Goals as goal

pub returns : goal.returns
returns c = IfSome_then c.pass_names.result c.pass_names.ensures (λ next p. path_passes _ _ _ _ _ c.in_ok-count.ensures p)
