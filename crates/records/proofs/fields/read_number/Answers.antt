-- `read_number` finds what `any_number` says: each answer of `wire::read` is a case of it, and where no byte is left the number is cut.
use mathlib.Core.Path.{refl}
use native.Mathlib.Omega.{arith}
use Rattle.records.proofs.ParsedLaws.{as_got, as_bad}
use Rattle.records.proofs.FieldsLaws.{number_none, number_value, number_fits, number_fails}
use Rattle.records.proofs.fields.read_number.Goals as goal

pub returns-then-s-at : goal.returns-then-s-at
returns-then-s-at c = rw c.fault_at.ensures (as_bad _ (number_none _ _ c.if-s-at.true))

pub overflow_add-result : goal.overflow_add-result
overflow_add-result c = omega (arith, number_fits c.args.s.now _ _ refl _ _ c.in-Ok.ensures c.if-s-at.false)

pub returns-in-Ok : goal.returns-in-Ok
returns-in-Ok c = as_got _ (number_value _ _ _ refl _ _ c.in-Ok.ensures)

pub returns-in-Err : goal.returns-in-Err
returns-in-Err c = rw (c.fault_at-in-Err.ensures, c.from.ensures) (as_bad _ (number_fails _ _ _ refl _ c.in-Err.ensures))
