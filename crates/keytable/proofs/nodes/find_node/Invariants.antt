-- `find_node` follows the slot of the key from its last node to its first.
use Rattle.keytable.proofs.NodesLaws.{Seeking}
use Rattle.keytable.proofs.nodes.find_node.Given as goal

abbrev pub invariant-loop-v : goal.invariant-loop-v
invariant-loop-v l = Seeking l.keys l.key.0 l.x

abbrev pub decreases-loop-v : goal.decreases-loop-v
decreases-loop-v l = l.x
