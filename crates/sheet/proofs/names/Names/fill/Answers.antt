-- `fill` lends the first entries to `fill_all`; those past them stay.
use Rattle.sheet.proofs.FillingLaws.{whole_filled, past_bindings}
use Rattle.sheet.proofs.names.Names.fill.Goals as goal

pub returns : goal.returns
returns c = whole_filled _ c.args.self.now.known.index.good _ _ _ _ c.fill_all.ensures.0 c.fill_all.ensures.1 _ (past_bindings _ _ _ _ _ c.args.self.now.known _)
