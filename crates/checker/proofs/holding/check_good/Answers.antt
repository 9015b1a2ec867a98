-- `check_good` reads the request and the derivation, and asks whether it holds.
use mathlib.Core.Path.{sym, ◌∙◌}
use Rattle.checker.proofs.AnswersLaws.{refused_as, blank_sheet, bad_request_lem, wish_fits, no_derivation, does_not_hold, does_hold}
use Rattle.checker.proofs.holding.check_good.Goals as goal

pub returns-in_err-wish : goal.returns-in_err-wish
returns-in_err-wish c = let w = refused_as _ c.from_residual.ensures.1 c.in_err-wish.ensures.value in rw w.1 (bad_request_lem _ _ _ _ _ c.args.good.now.held _ _ (w.0 ∙ c.read_request.ensures))

pub returns-in_err-parts : goal.returns-in_err-parts
returns-in_err-parts c =
    let w = refused_as _ c.from_residual-in_err-parts.ensures.1 c.in_err-parts.ensures.value in
    rw w.1 (no_derivation _ _ _ _ _ c.args.good.now.held _ _ (record { small = λ i. (c.type_inv.request i).fits }) _ (sym c.in_ok-wish.ensures.ok_part ∙ c.read_request.ensures) (w.0 ∙ c.read_derivation.ensures))

pub hold-requires : goal.hold-requires
hold-requires c = let w = wish_fits _ _ _ _ _ c.args.good.now.held _ c.args.derivation.now (record { small = λ i. (c.type_inv.request i).fits }) _ (sym c.in_ok-wish.ensures.ok_part ∙ c.read_request.ensures) in (c.args.good.now.names.known.few_bindings, blank_sheet _ 256, w.0, w.1)

pub returns-in_err-given : goal.returns-in_err-given
returns-in_err-given c =
    let w = refused_as _ c.from_residual-in_err-given.ensures.1 c.in_err-given.ensures.value in
    rw w.1 (does_not_hold _ _ _ _ _ c.args.good.now.held _ _ (record { small = λ i. (c.type_inv.request i).fits }) _ (sym c.in_ok-wish.ensures.ok_part ∙ c.read_request.ensures) _ (sym c.in_ok-parts.ensures.ok_part ∙ c.read_derivation.ensures) _ c.hold.ensures (sym w.0))

pub returns : goal.returns
returns c = does_hold _ _ _ _ _ c.args.good.now.held _ _ (record { small = λ i. (c.type_inv.request i).fits }) _ (sym c.in_ok-wish.ensures.ok_part ∙ c.read_request.ensures) _ (sym c.in_ok-parts.ensures.ok_part ∙ c.read_derivation.ensures) _ c.hold.ensures _ c.in_ok-given.ensures.ok_part
