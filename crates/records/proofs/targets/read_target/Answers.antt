-- `read_target` passes on the fault of the form, and else reads a key or a name.
use mathlib.Core.Path.{ap, sym, ◌∙◌}
use Rattle.records.specs.Parsed.{found_as}
use Rattle.records.specs.Targets.{target_field, target_value}
use Rattle.records.proofs.ParsedLaws.{same_got, same_bad, as_got, passed_on, bad_first, mapped_got, mapped_bad}
use Rattle.records.proofs.TargetsLaws.{by_key, by_name}
use Rattle.records.proofs.targets.read_target.Goals as goal

pub returns-in_err-form : goal.returns-in_err-form
unfolding target_field
returns-in_err-form c = passed_on _ c.from_residual.ensures.1 (bad_first _ _ (same_bad _ c.in_err-form.ensures))

pub returns-in_err-key : goal.returns-in_err-key
returns-in_err-key c = passed_on _ c.from_residual-in_err-key.ensures.1 (by_key _ _ _ _ _ (same_got _ c.in_ok-form.ensures) c.if-form-eq0.true ∙ mapped_bad _ _ _ _ (same_bad _ c.in_err-key.ensures))

pub returns-then-form-eq0 : goal.returns-then-form-eq0
returns-then-form-eq0 c = as_got target_value (by_key _ _ _ _ _ (same_got _ c.in_ok-form.ensures) c.if-form-eq0.true ∙ mapped_got _ _ _ _ (same_got _ c.in_ok-key.ensures))

pub returns : goal.returns
returns c = c.read_name.ensures ∙ ap (found_as target_value) (sym (by_name _ _ _ _ _ (same_got _ c.in_ok-form.ensures) c.if-form-eq0.false))
