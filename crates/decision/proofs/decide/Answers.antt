-- `decide` opens the table, and decides over what is kept of it.
use Rattle.decision.specs.declared.Refusal.TheVariants as refusal
use Rattle.decision.proofs.RefusedLaws.{passed, was_good, was_bad}
use Rattle.decision.proofs.AnswersLaws.{table_bad, table_good}
use Rattle.decision.proofs.decide.Goals as goal

pub returns-in_err-good : goal.returns-in_err-good
returns-in_err-good c =
    let bad = was_bad refusal.Table _ _ c.map_err.ensures.cases c.in_err-good.was in
    rw (passed c.from_residual.ensures.1 bad.2) (table_bad _ _ _ _ bad.0 (rw bad.1 at c.open.ensures))

pub returns : goal.returns
returns c = table_good _ _ _ _ c.in_ok-good.good (rw (was_good refusal.Table _ _ c.map_err.ensures.cases c.in_ok-good.was) at c.open.ensures) _ _ _ c.decide_good.ensures
