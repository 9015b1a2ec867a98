-- `find_node` follows the slot of the key from its last node to its first.
use Prim.Native.Nat.{◌≤◌}
use native.Mathlib.Omega.{arith}
use Rattle.keytable.proofs.NodesLaws.{seeking_end, row_found, row_on}
use Rattle.keytable.proofs.nodes.find_node.Goals as goal

pub returns-then-keys-v : goal.returns-then-keys-v
returns-then-keys-v c = row_found _ _ _ c.requires _ _ c.loop-v.invariant c.in-Some.ensures.0 _ c.in-Some.ensures.1 c.if-keys-v.true

pub loop-v-preserved : goal.loop-v-preserved
loop-v-preserved c = row_on _ _ _ c.requires _ _ c.loop-v.invariant c.in-Some.ensures.0 _ _ c.in-Some.ensures.1 c.from-x-in-Some.ensures c.if-keys-v.false

pub returns : goal.returns
returns c = let none : 1 ≤ c.loop-v.x → ⊥ = c.in_default.ensures in seeking_end _ _ _ c.requires _ _ c.loop-v.invariant (omega arith)
