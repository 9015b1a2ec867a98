-- `round` takes one turn for each binding.
use mathlib.Core.Path.{◌∙◌}
use Rattle.sheet.proofs.FillingLaws.{round_on}
use Rattle.sheet.proofs.names.Names.round.Goals as goal

pub loop-i-preserved : goal.loop-i-preserved
loop-i-preserved c = (round_on _ _ _ _ _ _ _ _ _ c.loop-i.invariant.0 c.fill_entry-n.ensures.listing c.fill_entry-n.ensures.turn, c.fill_entry-n.ensures.waiting, c.sheet-1.given ∙ c.loop-i.invariant.2, c.order-1.given ∙ c.loop-i.invariant.3, c.waits-1.given ∙ c.loop-i.invariant.4)
