-- `walk_target`: a key leads to itself, a name where `walk` says.
use Rattle.sheet.proofs.WalksLaws.{target_key_lem, target_name}
use Rattle.sheet.proofs.names.Lookup.walk_target.Goals as goal

pub returns-in-Key : goal.returns-in-Key
returns-in-Key c = λ t index. target_key_lem _ _ _ _ c.in-Key.is

pub returns-in-Name : goal.returns-in-Name
returns-in-Name c = λ t index. target_name _ _ _ _ _ c.in-Name.is _ (c.walk.ensures t index)
