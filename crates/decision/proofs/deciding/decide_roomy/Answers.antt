-- `decide_roomy` fills the sheet, finds the subject's key and its chain, and shows the chain.
use mathlib.Core.Path.{sym, ap}
use native.Mathlib.Omega.{arith}
use Rattle.decision.specs.Deciding.{answer_of}
use Rattle.decision.proofs.RefusedLaws.{is_there, is_missing, passed}
use Rattle.decision.proofs.DecidingLaws.{chain_short, listed_there, few_listed, access_there, all_written, no_name, no_access, answers}
use Rattle.decision.proofs.deciding.decide_roomy.Goals as goal

pub returns-in_err-key : goal.returns-in_err-key
returns-in_err-key c =
    let missing = is_missing _ _ c.in_err-key.ensures.value in
    rw (passed c.from_residual.ensures.1 missing.1) (no_name _ c.args.good.now.held.good _ _ _ _ c.fill-listed.ensures _ _ _ (omega (arith, c.fill-listed.auto.sheet)) c.requires.2 c.requires.3 _ (c.follow_target.ensures _ c.args.good.now.held.index) missing.0)

pub returns-in_err-settled : goal.returns-in_err-settled
returns-in_err-settled c =
    let missing = is_missing _ _ c.in_err-settled.ensures.value in
    rw (passed c.from_residual-in_err-settled.ensures.1 missing.1) (no_access _ c.args.good.now.held.good _ _ _ _ c.fill-listed.ensures _ _ _ (omega (arith, c.fill-listed.auto.sheet)) c.requires.2 c.requires.3 _ (c.follow_target.ensures _ c.args.good.now.held.index) _ (is_there _ _ c.in_ok-key.ensures.value) c.find_chain.new.chain (rw (c.records.ensures.table, missing.0) at c.find_chain.ensures))

pub show-requires : goal.show-requires
show-requires c =
    let settles = rw (c.records.ensures.table, is_there _ _ c.in_ok-settled.ensures.value) at c.find_chain.ensures in (
      listed_there _ c.args.good.now.held.good _ _ _ _ c.fill-listed.ensures,
      few_listed _ c.args.good.now.held.good _ _ _ _ c.fill-listed.ensures (omega (arith, c.fill-listed.ensures.few, c.args.good.now.held.good.few_bindings, c.fill-listed.auto.order)),
      omega (arith, c.args.good.now.names.known.few_bindings, c.requires.2, c.fill-listed.auto.sheet),
      c.requires.0,
      access_there _ c.args.good.now.held.good _ _ _ _ c.fill-listed.ensures _ _ _ _ settles,
      all_written _ c.args.good.now.held.good _ _ _ _ c.fill-listed.ensures _ _ _ _ settles (omega (arith, c.find_chain.auto.chain)),
      chain_short _ c.args.good.now.held.good _ _ _ _ c.fill-listed.ensures _ _ _ _ settles (omega (arith, c.find_chain.auto.chain)),
      c.requires.3,
    )

pub returns-in_err-length : goal.returns-in_err-length
returns-in_err-length c =
    let settles = rw (c.records.ensures.table, is_there _ _ c.in_ok-settled.ensures.value) at c.find_chain.ensures in
    let missing = is_missing _ _ c.in_err-length.ensures.value in
    rw (passed c.from_residual-in_err-length.ensures.1 missing.1) (answers _ c.args.good.now.held.good _ _ _ _ c.fill-listed.ensures _ _ _ (omega (arith, c.fill-listed.auto.sheet)) c.requires.2 c.requires.3 _ (c.follow_target.ensures _ c.args.good.now.held.index) _ (is_there _ _ c.in_ok-key.ensures.value) _ _ settles (omega (arith, c.find_chain.auto.chain)) _ _ c.show.ensures (omega (arith, c.fill-listed.ensures.few, c.args.good.now.held.good.few_bindings, c.fill-listed.auto.order)) _ (ap (answer_of c.in_ok-settled.settled.depth) (sym missing.0)))

pub returns : goal.returns
returns c =
    let settles = rw (c.records.ensures.table, is_there _ _ c.in_ok-settled.ensures.value) at c.find_chain.ensures in
    answers _ c.args.good.now.held.good _ _ _ _ c.fill-listed.ensures _ _ _ (omega (arith, c.fill-listed.auto.sheet)) c.requires.2 c.requires.3 _ (c.follow_target.ensures _ c.args.good.now.held.index) _ (is_there _ _ c.in_ok-key.ensures.value) _ _ settles (omega (arith, c.find_chain.auto.chain)) _ _ c.show.ensures (omega (arith, c.fill-listed.ensures.few, c.args.good.now.held.good.few_bindings, c.fill-listed.auto.order)) _ (ap (answer_of c.in_ok-settled.settled.depth) (sym (is_there _ _ c.in_ok-length.ensures.value)))
