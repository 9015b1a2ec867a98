-- `decide_by_keys` answers by what was read, and over a good table and request by the greatest code.
use mathlib.Core.Path.{◌≡◌}
use Rattle.std.proofs.lemmas.Result.{err_from_is_err_and}
use Rattle.keytable.specs.Deciding.{fault, request}
use Rattle.keytable.specs.declared.KeyRefusal.TheVariants as refusal
use Rattle.keytable.proofs.KnownLaws.{kept_got, kept_bad, kept_known}
use Rattle.keytable.proofs.DecidingLaws.{asked_none, asked_some, settles}
use Rattle.keytable.proofs.decide_by_keys.Goals as goal

pub returns-in_err-kept : goal.returns-in_err-kept
returns-in_err-kept c =
    let p = err_from_is_err_and c.from_residual.result c.from_residual.ensures.1 in
    rw (p.1, p.2) (fault (kept_bad _ _ _ c.in_err-kept.ensures.read))

pub returns-in_err-request : goal.returns-in_err-request
returns-in_err-request c =
    let p = err_from_is_err_and c.from_residual-in_err-request.result c.from_residual-in_err-request.ensures.1 in
    let v : c.in_err-request.field-0.0 ≡ refusal.Request = cc (rw c.in_err-request.ensures.ok_part at c.in_err-request.ensures.value) in
    let t = kept_got _ _ _ c.in_ok-kept.ensures.read in
    rw (p.1, p.2, v) (request t.2 (asked_none _ (rw c.in_err-request.ensures.ok_part at c.read_key_request-read.ensures)))

pub greatest_code-requires : goal.greatest_code-requires
greatest_code-requires c =
    let q : c.unwrap_or-asked.result ≡ c.in_ok-request.request = rw c.in_ok-request.ensures.ok_part at c.unwrap_or-asked.ensures in
    kept_known _ (record { small = λ i. (c.type_inv.table i).fits }) _ _ _ c.in_ok-kept.kept (rw q at c.in_ok-kept.ensures.read) (rw q at c.in_ok-kept.ensures.kept)

pub returns : goal.returns
returns c =
    let t = kept_got _ _ _ c.in_ok-kept.ensures.read in
    settles _ _ _ _ t.2 _ (asked_some _ (rw c.in_ok-request.ensures.ok_part at c.read_key_request-read.ensures)) c.greatest_code.result c.greatest_code.ensures.decides _ c.answer_of.ensures
