-- `draw_one` takes the delegation as an edge, if it is between two nodes.
use native.Mathlib.Omega.{arith}
use Rattle.matching.proofs.MatchingLaws.{few_spaces_lem}
use Rattle.decision.proofs.GatheringLaws.{node_here, node_fits}
use Rattle.decision.proofs.DrawingLaws.{hands_no_edge, to_nobody, one_more_edge, writer_fits_node, edge_depth_fits, drawn_in}
use Rattle.decision.proofs.gathering.draw_one.Goals as goal

pub returns-in_default : goal.returns-in_default
returns-in_default c = record { drawn = hands_no_edge _ c.args.records.now.held.good.names _ _ _ _ _ _ _ _ c.requires.6 _ c.match_delegation.ensures c.in_default.is; few = omega (arith, c.requires.5) }

pub returns-in_default-find_node : goal.returns-in_default-find_node
returns-in_default-find_node c = record { drawn = to_nobody _ c.args.records.now.held.good.names _ _ _ _ _ _ _ _ c.requires.6 _ c.match_delegation.ensures _ c.in-Some.is _ (node_here _ _ _ _ _ c.args.records.now.held c.find_node.ensures) c.in_default-find_node.is; few = omega (arith, c.requires.5) }

pub edge-requires : goal.edge-requires
edge-requires c = ((omega (arith, few_spaces_lem _ _ _ _ _ c.args.records.now.held, writer_fits_node _ _ _ _ _ c.args.records.now.held _ _ _ _ c.match_delegation.ensures _ c.in-Some.is)), (omega (arith, few_spaces_lem _ _ _ _ _ c.args.records.now.held, node_fits _ _ _ _ _ c.args.records.now.held _ _ _ _ c.find_node.ensures c.in-Some-find_node.is)), omega (arith, c.number.ensures, edge_depth_fits _ _ _ _ _ c.args.records.now.held _ _ _ _ c.match_delegation.ensures _ c.in-Some.is), omega (arith, c.requires.2, c.requires.3))

pub returns : goal.returns
returns c = record { drawn = drawn_in _ _ _ _ c.args.j c.args.m c.args.edges.now _ _ _ _ _ c.number.ensures c.edge.ensures (omega (arith, few_spaces_lem _ _ _ _ _ c.args.records.now.held, writer_fits_node _ _ _ _ _ c.args.records.now.held _ _ _ _ c.match_delegation.ensures _ c.in-Some.is)) (omega (arith, few_spaces_lem _ _ _ _ _ c.args.records.now.held, node_fits _ _ _ _ _ c.args.records.now.held _ _ _ _ c.find_node.ensures c.in-Some-find_node.is)) (omega (arith, edge_depth_fits _ _ _ _ _ c.args.records.now.held _ _ _ _ c.match_delegation.ensures _ c.in-Some.is)) (omega (arith, c.requires.2, c.requires.3, c.requires.4, c.requires.5)) (one_more_edge _ c.args.records.now.held.good.names _ _ _ _ _ _ _ _ c.requires.6 _ c.match_delegation.ensures _ c.in-Some.is _ (node_here _ _ _ _ _ c.args.records.now.held c.find_node.ensures) _ c.in-Some-find_node.is); few = omega (arith, c.requires.5) }
