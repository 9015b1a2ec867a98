-- `read_binding` passes on the fault of the first part that has one, finds a base name that is bound already at its place, and else the binding.
use mathlib.Core.Path.{sym, ap, ◌∙◌}
use native.Mathlib.Omega.{arith}
use Rattle.records.specs.Rows.{is_among}
use Rattle.records.proofs.ParsedLaws.{same_got, same_bad, found_got, found_bad, as_got, as_bad, passed_on}
use Rattle.records.proofs.FieldsLaws.{field_within}
use Rattle.records.proofs.BindingsLaws.{space_below, space_fails, base_fails, twice_found, target_fails, binding_found}
use Rattle.records.proofs.bindings.read_binding.Goals as goal

pub returns-in_err-space : goal.returns-in_err-space
returns-in_err-space c = passed_on _ c.from_residual.ensures.1 (space_fails _ _ _ _ (same_bad _ c.in_err-space.ensures))

pub returns-in_err-base : goal.returns-in_err-base
returns-in_err-base c = passed_on _ c.from_residual-in_err-base.ensures.1 (base_fails _ _ _ _ _ (same_got _ c.in_ok-space.ensures) _ (same_bad _ c.in_err-base.ensures))

pub pack-requires : goal.pack-requires
pack-requires c = (omega (arith, c.requires, space_below _ _ _ _ _ (same_got _ c.in_ok-space.ensures)), omega (arith, (field_within _ _ _ _ _ _ (same_got _ c.in_ok-base.ensures)).1))

pub returns-then-is_among : goal.returns-then-is_among
returns-then-is_among c = rw c.fault_at.ensures (as_bad _ (twice_found _ _ _ _ _ (same_got _ c.in_ok-space.ensures) _ _ (same_got _ c.in_ok-base.ensures) (ap (is_among c.args.earlier.now) (sym c.pack.ensures) ∙ sym c.is_among.ensures ∙ c.if-is_among.true)))

pub returns-in_err-target : goal.returns-in_err-target
returns-in_err-target c = passed_on _ c.from_residual-in_err-target.ensures.1 (target_fails _ _ _ _ _ (same_got _ c.in_ok-space.ensures) _ _ (same_got _ c.in_ok-base.ensures) (ap (is_among c.args.earlier.now) (sym c.pack.ensures) ∙ sym c.is_among.ensures ∙ c.if-is_among.false) _ (found_bad _ _ c.in_err-target.ensures))

pub returns : goal.returns
returns c = let t = found_got _ _ c.in_ok-target.ensures in rw t.2 (as_got _ (binding_found _ _ _ _ _ (same_got _ c.in_ok-space.ensures) _ _ (same_got _ c.in_ok-base.ensures) (ap (is_among c.args.earlier.now) (sym c.pack.ensures) ∙ sym c.is_among.ensures ∙ c.if-is_among.false) _ _ t.1))
