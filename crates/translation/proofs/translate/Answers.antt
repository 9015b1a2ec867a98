-- `translate` opens the table, asks for room, and translates what is kept of the table.
use Rattle.std.proofs.lemmas.Result.{err_from_is_err_and}
use Rattle.translation.specs.Promise.{bad_table}
use Rattle.translation.proofs.AnswersLaws.{too_short, table_translated}
use Rattle.translation.proofs.translate.Goals as goal

pub returns-in_err-good : goal.returns-in_err-good
returns-in_err-good c = let p = err_from_is_err_and c.from_residual.result c.from_residual.ensures.1 in rw (p.1, p.2) (bad_table c.in_err-good.ensures)

pub returns-then-out-lt-MOST_KEY_TABLE : goal.returns-then-out-lt-MOST_KEY_TABLE
returns-then-out-lt-MOST_KEY_TABLE c = too_short _ _ c.in_ok-good.good c.in_ok-good.ensures c.if-out-lt-MOST_KEY_TABLE.true

pub translate_good-requires : goal.translate_good-requires
translate_good-requires c = c.if-out-lt-MOST_KEY_TABLE.false

pub returns : goal.returns
returns c = table_translated _ _ c.in_ok-good.good c.in_ok-good.ensures c.if-out-lt-MOST_KEY_TABLE.false _ _ c.translate_good.ensures
