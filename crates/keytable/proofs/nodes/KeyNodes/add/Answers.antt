-- `add` makes the node in the rows.
use Rattle.keytable.proofs.NodesLaws.{grown_of}
use Rattle.keytable.proofs.nodes.KeyNodes.add.Goals as goal

pub returns-clause-grown : goal.returns-clause-grown
returns-clause-grown c = rw (← c.self.view_is, ← c.from-n.ensures) (grown_of c.add_node.ensures.grown)
