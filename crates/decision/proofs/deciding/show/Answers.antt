-- `show` marks what is needed, and writes the marked ones.
use Rattle.decision.proofs.ShowingLaws.{blank_marks}
use Rattle.decision.proofs.deciding.show.Goals as goal

pub mark_all-requires : goal.mark_all-requires
mark_all-requires c = (c.requires.0, c.requires.2, c.args.good.now.names.known.few_bindings, blank_marks 256, c.requires.3, c.requires.4, c.requires.5)
