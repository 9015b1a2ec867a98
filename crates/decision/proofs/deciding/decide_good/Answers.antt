-- `decide_good` reads the request, and asks for room.
use mathlib.Core.Path.{sym, ◌∙◌}
use native.Mathlib.Omega.{arith}
use Rattle.decision.proofs.RefusedLaws.{is_there, is_missing, passed}
use Rattle.decision.proofs.AnswersLaws.{bad_request_lem, wish_fits, no_room, decided_so}
use Rattle.decision.proofs.deciding.decide_good.Goals as goal

pub returns-in_err-wish : goal.returns-in_err-wish
returns-in_err-wish c =
    let missing = is_missing _ _ c.in_err-wish.ensures.value in
    rw (passed c.from_residual.ensures.1 missing.1) (bad_request_lem _ _ _ _ _ c.args.good.now.held _ _ _ (sym missing.0 ∙ c.read_request.ensures))

pub returns-then-sheet-lt-SHEET_SIZE : goal.returns-then-sheet-lt-SHEET_SIZE
returns-then-sheet-lt-SHEET_SIZE c = no_room _ _ _ _ _ c.args.good.now.held _ _ _ (record { small = λ i. omega (arith, c.type_inv.request i) }) _ (sym (is_there _ _ c.in_ok-wish.ensures.value) ∙ c.read_request.ensures) c.then-sheet-lt-SHEET_SIZE.either

pub decide_roomy-requires : goal.decide_roomy-requires
decide_roomy-requires c =
    let w = wish_fits _ _ _ _ _ c.args.good.now.held _ c.args.sheet.now c.args.derivation.now (record { small = λ i. omega (arith, c.type_inv.request i) }) _ (sym (is_there _ _ c.in_ok-wish.ensures.value) ∙ c.read_request.ensures) in
    (w.0, w.1, omega (arith, c.if-sheet-lt-SHEET_SIZE.false), omega (arith, c.if-derivation-lt-MOST_DERIVATION.false))

pub returns : goal.returns
returns c = decided_so _ _ _ _ _ c.args.good.now.held _ _ _ (record { small = λ i. omega (arith, c.type_inv.request i) }) _ (sym (is_there _ _ c.in_ok-wish.ensures.value) ∙ c.read_request.ensures) _ _ _ c.decide_roomy.ensures
