-- `read_key` passes on the fault of the field, and else finds its number as a key.
use Rattle.records.proofs.ParsedLaws.{same_got, same_bad, as_got, passed_on, mapped_got, mapped_bad}
use Rattle.records.specs.Fields.{key_field}
use Rattle.records.proofs.fields.read_key.Goals as goal

pub returns-in_err-value : goal.returns-in_err-value
unfolding key_field
returns-in_err-value c = passed_on _ c.from_residual.ensures.1 (mapped_bad _ _ _ _ (same_bad _ c.in_err-value.ensures))

pub returns : goal.returns
unfolding key_field
returns c = as_got _ (mapped_got _ _ _ _ (same_got _ c.in_ok-value.ensures))
