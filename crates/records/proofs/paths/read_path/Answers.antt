-- `read_path` passes on the fault of the length, and else answers what the names are.
use mathlib.Core.Path.{ap, sym, ◌∙◌}
use native.Mathlib.Omega.{arith}
use Rattle.records.specs.Parsed.{found_as}
use Rattle.records.specs.Paths.{path_field, path_value}
use Rattle.records.proofs.ParsedLaws.{same_got, same_bad, passed_on, got_then, bad_first}
use Rattle.records.proofs.FieldsLaws.{field_within}
use Rattle.records.proofs.paths.read_path.Goals as goal

pub returns-in_err-count : goal.returns-in_err-count
unfolding path_field
returns-in_err-count c = passed_on _ c.from_residual.ensures.1 (bad_first _ _ (same_bad _ c.in_err-count.ensures))

pub read_names-requires : goal.read_names-requires
read_names-requires c = omega (arith, (field_within _ _ _ _ _ _ (same_got _ c.in_ok-count.ensures)).1)

pub returns : goal.returns
unfolding path_field
returns c = c.read_names.ensures ∙ ap (found_as path_value) (sym (got_then _ _ (same_got _ c.in_ok-count.ensures)))
