-- `find_node` finds the space of the key, or knows the subject's.
use native.Mathlib.Omega.{arith}
use Rattle.decision.proofs.GatheringLaws.{node_space, node_stranger, node_nobody}
use Rattle.decision.proofs.gathering.find_node.Goals as goal

pub returns-then-eq : goal.returns-then-eq
returns-then-eq c = node_stranger c.args.keys.now _ _ _ c.find_space.ensures c.in-None.is (grind (arith, c.if-eq.ensures))

pub returns-in-Some : goal.returns-in-Some
returns-in-Some c = node_space c.args.keys.now _ _ _ c.find_space.ensures _ c.in-Some.is

pub returns-else-eq : goal.returns-else-eq
returns-else-eq c = node_nobody c.args.keys.now _ _ _ c.find_space.ensures c.in-None.is (λ h. grind (arith, c.if-eq.ensures))
