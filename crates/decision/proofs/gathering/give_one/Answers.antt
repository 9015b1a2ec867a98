-- `give_one` takes what the access record gives, if a node gets more by it.
use native.Mathlib.Omega.{arith}
use Rattle.matching.proofs.MatchingLaws.{few_spaces_lem}
use Rattle.decision.proofs.GatheringLaws.{gives_none_more, given_nobody, has_enough, raised, node_here, node_fits, depth_fits}
use Rattle.decision.proofs.gathering.give_one.Goals as goal

pub returns-in_default : goal.returns-in_default
returns-in_default c = gives_none_more _ c.args.records.now.held.good.names _ _ _ _ _ _ c.requires.5 _ c.match_access.ensures c.in_default.is

pub returns-in_default-find_node : goal.returns-in_default-find_node
returns-in_default-find_node c = given_nobody _ c.args.records.now.held.good.names _ _ _ _ _ _ c.requires.5 _ c.match_access.ensures _ c.in-Some.is _ (node_here _ _ _ _ _ c.args.records.now.held c.find_node.ensures) c.in_default-find_node.is

pub bounds-best-v : goal.bounds-best-v
bounds-best-v c = omega (arith, node_fits _ _ _ _ _ c.args.records.now.held _ _ _ _ c.find_node.ensures c.in-Some-find_node.is, c.requires.3)

pub returns-then-code-best : goal.returns-then-code-best
returns-then-code-best c = has_enough _ c.args.records.now.held.good.names _ _ _ _ _ _ c.requires.5 _ c.match_access.ensures _ c.in-Some.is _ (node_here _ _ _ _ _ c.args.records.now.held c.find_node.ensures) _ c.in-Some-find_node.is (omega (arith, c.number.ensures, c.if-code-best.true))

pub bounds-best-v-2 : goal.bounds-best-v-2
bounds-best-v-2 c = omega (arith, node_fits _ _ _ _ _ c.args.records.now.held _ _ _ _ c.find_node.ensures c.in-Some-find_node.is, c.requires.3)

pub offset_bounds-roots-v : goal.offset_bounds-roots-v
offset_bounds-roots-v c = omega (arith, few_spaces_lem _ _ _ _ _ c.args.records.now.held, node_fits _ _ _ _ _ c.args.records.now.held _ _ _ _ c.find_node.ensures c.in-Some-find_node.is)

pub bounds-roots-v : goal.bounds-roots-v
bounds-roots-v c = omega (arith, node_fits _ _ _ _ _ c.args.records.now.held _ _ _ _ c.find_node.ensures c.in-Some-find_node.is, c.requires.4)

pub returns : goal.returns
returns c = raised _ c.args.records.now.held.good.names _ _ _ _ _ _ c.requires.5 _ c.match_access.ensures _ c.in-Some.is _ (node_here _ _ _ _ _ c.args.records.now.held c.find_node.ensures) _ c.in-Some-find_node.is _ c.number.ensures c.if-code-best.false (depth_fits _ _ _ _ _ c.args.records.now.held _ _ _ _ _ c.match_access.ensures c.in-Some.is) (omega (arith, node_fits _ _ _ _ _ c.args.records.now.held _ _ _ _ c.find_node.ensures c.in-Some-find_node.is, c.requires.3)) (omega (arith, node_fits _ _ _ _ _ c.args.records.now.held _ _ _ _ c.find_node.ensures c.in-Some-find_node.is, c.requires.4))
