-- `add_node` leaves the nodes as they are where the key has one, and else makes it the last of its slot.
use Rattle.keytable.proofs.NodesLaws.{nobody_yet, added_grown, added_has}
use Rattle.keytable.proofs.nodes.add_node.Goals as goal

pub returns-clause-grown : goal.returns-clause-grown
returns-clause-grown c = added_grown c.args.keys.now _ _ _ c.requires.0 _ c.requires.1 c.requires.2 (nobody_yet _ _ _ c.find_node.ensures c.if-is_some.ensures) _ c.slot_of-begin.ensures.0

pub returns-clause-has : goal.returns-clause-has
returns-clause-has c = added_has c.args.keys.now _ _ _ c.requires.0 _ c.requires.1 c.requires.2
