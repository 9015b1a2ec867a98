-- `check` opens the table, and checks over what is kept of it.
use Rattle.matching.proofs.OpenedLaws.{opened_bad, opened_good}
use Rattle.checker.specs.Promise.{bad_table}
use Rattle.checker.specs.declared.Refusal.TheVariants as refusal
use Rattle.checker.proofs.AnswersLaws.{table_good}
use Rattle.checker.proofs.check.Goals as goal

pub returns-in_err-good : goal.returns-in_err-good
returns-in_err-good c = let w = opened_bad refusal.Table _ _ c.open.ensures _ c.from_residual.ensures.1 c.in_err-good.ensures.cases in rw w.2 (bad_table w.1)

pub returns : goal.returns
returns c = table_good _ _ _ c.in_ok-good.good (opened_good _ _ _ c.open.ensures _ c.in_ok-good.ensures.cases) _ c.check_good.ensures
