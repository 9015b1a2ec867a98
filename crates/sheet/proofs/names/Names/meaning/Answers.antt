-- `meaning` tells where the binding leads for now.
use Rattle.sheet.proofs.MeaningLaws.{leads_now}
use Rattle.sheet.proofs.names.Names.meaning.Goals as goal

pub returns : goal.returns
returns c = leads_now _ _ _ _ _ c.for_now.ensures c.open_binding.ensures
