-- `new` has no nodes, and so no slot leads to one.
use mathlib.Core.Path.{refl}
use native.Mathlib.Omega.{arith}
use Rattle.keytable.proofs.RowsLaws.{all_empty}
use Rattle.keytable.proofs.NodesLaws.{nodes_none}
use Rattle.keytable.proofs.nodes.KeyNodes.new.Goals as goal

pub invariant_of-result : goal.invariant_of-result
invariant_of-result c = (nodes_none _ _ refl (λ s h. all_empty 64 s), omega arith)
