-- `follow_name` tells where the name leads for now.
use Rattle.sheet.proofs.WalksLaws.{found_now}
use Rattle.sheet.proofs.names.Lookup.follow_name.Goals as goal

pub returns : goal.returns
returns c = λ t index. found_now _ _ _ _ _ c.for_now.ensures (c.walk.ensures t index)
