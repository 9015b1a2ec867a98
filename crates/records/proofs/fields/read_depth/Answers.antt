-- `read_depth` passes on the fault of the number; a number that makes no depth is out of range.
use Rattle.records.proofs.ParsedLaws.{same_got, same_bad, as_got, as_bad, passed_on, bad_first}
use Rattle.records.proofs.FieldsLaws.{depth_found, depth_high}
use Rattle.records.specs.Fields.{depth_field}
use Rattle.records.proofs.fields.read_depth.Goals as goal

pub returns-in_err-value : goal.returns-in_err-value
unfolding depth_field
returns-in_err-value c = passed_on _ c.from_residual.ensures.1 (bad_first _ _ (same_bad _ c.in_err-value.ensures))

pub returns-in-Some : goal.returns-in-Some
returns-in-Some c = let d = depth_found _ _ _ _ (same_got _ c.in_ok-value.ensures) _ c.in-Some.ensures in rw d.1 (as_got _ d.0)

pub returns-in-None : goal.returns-in-None
returns-in-None c = rw c.fault_at.ensures (as_bad _ (depth_high _ _ _ _ (same_got _ c.in_ok-value.ensures) c.in-None.ensures))
