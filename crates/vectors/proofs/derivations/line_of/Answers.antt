-- A chain has at most 16 records.
use mathlib.Core.Path.{sym, ◌∙◌}
use Prim.Native.Nat.{◌≤◌}
use native.Mathlib.Omega.{arith}
use Rattle.vectors.proofs.LinesLaws.{chain_short}
use Rattle.vectors.proofs.derivations.line_of.Goals as goal

pub overflow_add-result : goal.overflow_add-result
overflow_add-result c = let h : c.in-Some.parts.delegations ≤ 15 = chain_short _ _ (record { small = λ i. (c.type_inv.bytes i).fits }) (sym c.in-Some.is ∙ c.read_derivation.ensures) in omega arith
