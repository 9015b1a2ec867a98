-- `enter_listed` enters one listed binding after the other.
use mathlib.Core.Path.{sym, ◌∙◌}
use native.Mathlib.Omega.{arith}
use Rattle.records.proofs.ParsedLaws.{same_got, same_bad}
use Rattle.checker.proofs.EnteringLaws.{no_number, not_there, leads_to_none, enters_one, entering_end}
use Rattle.checker.proofs.listing.enter_listed.Goals as goal

pub returns-in_default : goal.returns-in_default
returns-in_default c = no_number _ _ _ _ _ _ _ _ c.loop.invariant c.loop-test.true _ (same_bad _ (sym c.in_default.is ∙ c.read_field.ensures))

pub returns-then-which-names : goal.returns-then-which-names
returns-then-which-names c = not_there _ _ _ _ _ _ _ _ c.loop.invariant c.loop-test.true _ _ (same_got _ (sym c.in-Ok.is ∙ c.read_field.ensures)) _ _ _ _ c.args.names.now.known c.if-which-names.true

pub returns-in_default-meaning : goal.returns-in_default-meaning
returns-in_default-meaning c = leads_to_none _ _ _ _ _ _ _ _ c.loop.invariant c.loop-test.true _ _ (same_got _ (sym c.in-Ok.is ∙ c.read_field.ensures)) _ _ _ _ c.args.names.now.known _ c.meaning.ensures c.in_default-meaning.is

pub loop-preserved : goal.loop-preserved
loop-preserved c = enters_one _ _ _ _ _ _ _ _ c.loop.invariant c.loop-test.true _ _ (same_got _ (sym c.in-Ok.is ∙ c.read_field.ensures)) _ _ _ _ c.args.names.now.known _ c.meaning.ensures _ c.in-Some.is c.if-which-names.false (omega (arith, c.if-which-names.false, c.requires.0, c.loop.invariant.size))

pub returns : goal.returns
returns c = entering_end _ _ _ _ _ _ _ _ c.loop.invariant c.loop-test.false
