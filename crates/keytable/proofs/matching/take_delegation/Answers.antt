-- `take_delegation` draws an edge where the delegation matches and both its keys have nodes.
use Rattle.keytable.proofs.MatchingLaws.{edge_other, edge_from_nobody, edge_to_nobody, edge_drawn}
use Rattle.keytable.proofs.matching.take_delegation.Goals as goal

pub returns-then-not-is_asked-clause-turn : goal.returns-then-not-is_asked-clause-turn
returns-then-not-is_asked-clause-turn c = edge_other _ _ _ c.args.edges.now c.args.m _ c.is_asked.ensures c.if-not-is_asked.true

pub returns-in_default-clause-turn : goal.returns-in_default-clause-turn
returns-in_default-clause-turn c = edge_from_nobody _ _ _ c.args.edges.now c.args.m _ c.is_asked.ensures _ c.find_node.ensures c.in_default.is

pub returns-in_default-find_node-clause-turn : goal.returns-in_default-find_node-clause-turn
returns-in_default-find_node-clause-turn c = edge_to_nobody _ _ _ c.args.edges.now c.args.m _ c.is_asked.ensures _ c.find_node.ensures _ c.find_node-2.ensures c.in_default-find_node.is

pub returns-clause-turn : goal.returns-clause-turn
returns-clause-turn c = edge_drawn _ _ _ c.args.edges.now c.args.m _ c.is_asked.ensures _ c.find_node.ensures _ c.find_node-2.ensures c.if-not-is_asked.false _ _ _ _ c.in-Some.is c.in-Some-find_node.is c.number.ensures c.edge.ensures c.requires.1 c.requires.2 c.requires.3
