-- `read_space` passes on the fault of the number, and else finds a space where the number is below the count.
use Rattle.records.proofs.ParsedLaws.{same_got, same_bad, as_got, as_bad, passed_on, bad_first, mapped_bad}
use Rattle.records.specs.Fields.{space_field}
use Rattle.records.proofs.FieldsLaws.{space_value, space_high}
use Rattle.records.proofs.fields.read_space.Goals as goal

pub returns-in_err-value : goal.returns-in_err-value
unfolding space_field
returns-in_err-value c = passed_on _ c.from_residual.ensures.1 (mapped_bad _ _ _ _ (bad_first _ _ (same_bad _ c.in_err-value.ensures)))

pub returns-then-space-spaces : goal.returns-then-space-spaces
returns-then-space-spaces c = as_got _ (space_value _ _ _ _ (same_got _ c.in_ok-value.ensures) _ c.if-space-spaces.true)

pub returns-else-space-spaces : goal.returns-else-space-spaces
returns-else-space-spaces c = rw c.fault_at.ensures (as_bad _ (space_high _ _ _ _ (same_got _ c.in_ok-value.ensures) _ c.if-space-spaces.false))
