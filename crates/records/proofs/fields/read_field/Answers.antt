-- `read_field` passes on the fault of the number, and else finds what `field` says: the tests that led to an answer are its own.
use Rattle.records.proofs.ParsedLaws.{same_got, same_bad, as_got, as_bad, passed_on, bad_first}
use Rattle.records.specs.Fields.{field}
use Rattle.records.proofs.FieldsLaws.{field_low, field_high, field_value}
use Rattle.records.proofs.fields.read_field.Goals as goal
use Rattle.records.proofs.fields.read_field.Goals.{then-value-low-via-then-value-low, then-value-low-via-else-value-low+then-high-value}

pub returns-in_err-value : goal.returns-in_err-value
unfolding field
returns-in_err-value c = passed_on _ c.from_residual.ensures.1 (bad_first _ _ (same_bad _ c.in_err-value.ensures))

pub returns-then-value-low : goal.returns-then-value-low
returns-then-value-low c =
    rw c.fault_at.ensures
    (as_bad _ (elim c.then-value-low.branch [
      | then-value-low-via-then-value-low w ↦ field_low _ _ _ _ (same_got _ c.in_ok-value.ensures) _ _ w.if-value-low.true
      | then-value-low-via-else-value-low+then-high-value w ↦ field_high _ _ _ _ (same_got _ c.in_ok-value.ensures) _ _ w.if-value-low.false w.if-high-value.true
    ]))

pub returns : goal.returns
returns c = as_got _ (field_value _ _ _ _ (same_got _ c.in_ok-value.ensures) _ _ c.if-value-low.false c.if-high-value.false)
