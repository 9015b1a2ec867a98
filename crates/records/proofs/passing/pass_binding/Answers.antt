-- `pass_binding`: its parts, one behind the other; the name is packed as it is kept.
use native.Mathlib.Omega.{arith}
use Rattle.records.proofs.FieldsLaws.{field_within}
use Rattle.records.proofs.PassingLaws.{space_seen, binding_passes}
use Rattle.records.proofs.passing.pass_binding.Goals as goal

pub overflow_add-result : goal.overflow_add-result
overflow_add-result c = omega (arith, c.in_ok-space.ensures.most, (field_within _ _ _ _ _ _ c.in_ok-base.ensures).1)

pub returns : goal.returns
returns c = binding_passes _ _ _ _ _ _ _ (space_seen _ _ _ _ _ _ c.in_ok-space.ensures _ c.if-spaces-space.false) c.in_ok-base.ensures c.in_ok-next.ensures
