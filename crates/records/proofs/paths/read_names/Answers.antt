-- `read_names` passes on the fault of the first name that has one, and else finds as many names as are asked for.
use Rattle.records.proofs.ParsedLaws.{same_got, same_bad, as_got, passed_on}
use Rattle.records.proofs.PathsLaws.{none_found, first_fails, one_found, second_fails, two_found, third_fails, three_found, fourth_fails, four_found}
use Rattle.records.proofs.paths.read_names.Goals as goal

pub returns-then-count-eq0 : goal.returns-then-count-eq0
returns-then-count-eq0 c = rw c.path_of.ensures (as_got _ (none_found _ _ _ c.if-count-eq0.true))

pub returns-in_err-first : goal.returns-in_err-first
returns-in_err-first c = passed_on _ c.from_residual.ensures.1 (first_fails _ _ _ c.if-count-eq0.false _ (same_bad _ c.in_err-first.ensures))

pub returns-then-count-eq1 : goal.returns-then-count-eq1
returns-then-count-eq1 c = rw c.path_of-then-count-eq1.ensures (as_got _ (one_found _ _ _ c.if-count-eq0.false _ _ (same_got _ c.in_ok-first.ensures) c.if-count-eq1.true))

pub returns-in_err-second : goal.returns-in_err-second
returns-in_err-second c = passed_on _ c.from_residual-in_err-second.ensures.1 (second_fails _ _ _ c.if-count-eq0.false _ _ (same_got _ c.in_ok-first.ensures) c.if-count-eq1.false _ (same_bad _ c.in_err-second.ensures))

pub returns-then-count-eq2 : goal.returns-then-count-eq2
returns-then-count-eq2 c = rw c.path_of-then-count-eq2.ensures (as_got _ (two_found _ _ _ c.if-count-eq0.false _ _ (same_got _ c.in_ok-first.ensures) c.if-count-eq1.false _ _ (same_got _ c.in_ok-second.ensures) c.if-count-eq2.true))

pub returns-in_err-third : goal.returns-in_err-third
returns-in_err-third c = passed_on _ c.from_residual-in_err-third.ensures.1 (third_fails _ _ _ c.if-count-eq0.false _ _ (same_got _ c.in_ok-first.ensures) c.if-count-eq1.false _ _ (same_got _ c.in_ok-second.ensures) c.if-count-eq2.false _ (same_bad _ c.in_err-third.ensures))

pub returns-then-count-eq3 : goal.returns-then-count-eq3
returns-then-count-eq3 c = rw c.path_of-then-count-eq3.ensures (as_got _ (three_found _ _ _ c.if-count-eq0.false _ _ (same_got _ c.in_ok-first.ensures) c.if-count-eq1.false _ _ (same_got _ c.in_ok-second.ensures) c.if-count-eq2.false _ _ (same_got _ c.in_ok-third.ensures) c.if-count-eq3.true))

pub returns-in_err-fourth : goal.returns-in_err-fourth
returns-in_err-fourth c = passed_on _ c.from_residual-in_err-fourth.ensures.1 (fourth_fails _ _ _ c.if-count-eq0.false _ _ (same_got _ c.in_ok-first.ensures) c.if-count-eq1.false _ _ (same_got _ c.in_ok-second.ensures) c.if-count-eq2.false _ _ (same_got _ c.in_ok-third.ensures) c.if-count-eq3.false c.requires _ (same_bad _ c.in_err-fourth.ensures))

pub returns : goal.returns
returns c = rw c.path_of-2.ensures (as_got _ (four_found _ _ _ c.if-count-eq0.false _ _ (same_got _ c.in_ok-first.ensures) c.if-count-eq1.false _ _ (same_got _ c.in_ok-second.ensures) c.if-count-eq2.false _ _ (same_got _ c.in_ok-third.ensures) c.if-count-eq3.false c.requires _ _ (same_got _ c.in_ok-fourth.ensures)))
