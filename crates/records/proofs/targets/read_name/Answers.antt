-- `read_name` passes on the fault of either part, and else finds both.
use Rattle.records.specs.Targets.{name_fields}
use Rattle.records.proofs.ParsedLaws.{same_got, same_bad, found_got, found_bad, as_got, passed_on, both_got, both_first, both_then, mapped_got, mapped_bad}
use Rattle.records.proofs.targets.read_name.Goals as goal

pub returns-in_err-space : goal.returns-in_err-space
unfolding name_fields
returns-in_err-space c = passed_on _ c.from_residual.ensures.1 (mapped_bad _ _ _ _ (both_first _ _ _ _ (same_bad _ c.in_err-space.ensures)))

pub returns-in_err-path : goal.returns-in_err-path
unfolding name_fields
returns-in_err-path c = passed_on _ c.from_residual-in_err-path.ensures.1 (mapped_bad _ _ _ _ (both_then _ _ _ _ (same_got _ c.in_ok-space.ensures) (found_bad _ _ c.in_err-path.ensures)))

pub returns : goal.returns
unfolding name_fields
returns c = let p = found_got _ _ c.in_ok-path.ensures in rw p.2 (as_got _ (mapped_got _ _ _ _ (both_got _ _ _ _ (same_got _ c.in_ok-space.ensures) p.1)))
