-- `read_use` passes on the fault of either field, and else finds both.
use Rattle.records.proofs.ParsedLaws.{same_got, same_bad, as_got, passed_on, both_got, both_first, both_then}
use Rattle.records.specs.Fields.{use_fields}
use Rattle.records.proofs.fields.read_use.Goals as goal

pub returns-in_err-object : goal.returns-in_err-object
unfolding use_fields
returns-in_err-object c = passed_on _ c.from_residual.ensures.1 (both_first _ _ _ _ (same_bad _ c.in_err-object.ensures))

pub returns-in_err-right : goal.returns-in_err-right
unfolding use_fields
returns-in_err-right c = passed_on _ c.from_residual-in_err-right.ensures.1 (both_then _ _ _ _ (same_got _ c.in_ok-object.ensures) (same_bad _ c.in_err-right.ensures))

pub returns : goal.returns
unfolding use_fields
returns c = as_got _ (both_got _ _ _ _ (same_got _ c.in_ok-object.ensures) (same_got _ c.in_ok-right.ensures))
