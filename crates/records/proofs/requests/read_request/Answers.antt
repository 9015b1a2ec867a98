-- `read_request` answers a request where all of it reads to the last byte, and else none.
use Rattle.records.specs.Requests.{request_fields}
use Rattle.records.proofs.ParsedLaws.{ok_got, ok_bad, same_ok_got, same_ok_bad, both_got, both_first, both_then, mapped_got, mapped_bad}
use Rattle.records.proofs.RequestsLaws.{held, held_not, request_long, request_not, request_more, request_found}
use Rattle.records.proofs.requests.read_request.Goals as goal

pub returns-then-bytes-gt-MOST_REQUEST : goal.returns-then-bytes-gt-MOST_REQUEST
returns-then-bytes-gt-MOST_REQUEST c = held_not _ (request_long _ _ c.if-bytes-gt-MOST_REQUEST.true)

pub returns-in_err-subject : goal.returns-in_err-subject
unfolding request_fields
returns-in_err-subject c =
    let e = ok_bad _ _ c.read_target.ensures c.in_err-subject.ensures.value in
    rw c.from_residual.ensures (held_not _ (request_not _ _ c.if-bytes-gt-MOST_REQUEST.false _ (mapped_bad _ _ _ _ (both_first _ _ _ _ e.1))))

pub returns-in_err-owner : goal.returns-in_err-owner
unfolding request_fields
returns-in_err-owner c =
    let t = ok_got _ _ c.read_target.ensures c.in_ok-subject.ensures.value in
    let e = same_ok_bad _ c.read_space.ensures c.in_err-owner.ensures.value in
    rw c.from_residual-in_err-owner.ensures (held_not _ (request_not _ _ c.if-bytes-gt-MOST_REQUEST.false _ (mapped_bad _ _ _ _ (both_then _ _ _ _ t.1 (both_first _ _ _ _ e.1)))))

pub returns-in_err-wanted : goal.returns-in_err-wanted
unfolding request_fields
returns-in_err-wanted c =
    let t = ok_got _ _ c.read_target.ensures c.in_ok-subject.ensures.value in
    let S = same_ok_got _ c.read_space.ensures c.in_ok-owner.ensures.value in
    let e = ok_bad _ _ c.read_use.ensures c.in_err-wanted.ensures.value in
    rw c.from_residual-in_err-wanted.ensures (held_not _ (request_not _ _ c.if-bytes-gt-MOST_REQUEST.false _ (mapped_bad _ _ _ _ (both_then _ _ _ _ t.1 (both_then _ _ _ _ S e.1)))))

pub returns-then-next-bytes : goal.returns-then-next-bytes
unfolding request_fields
returns-then-next-bytes c =
    let t = ok_got _ _ c.read_target.ensures c.in_ok-subject.ensures.value in
    let S = same_ok_got _ c.read_space.ensures c.in_ok-owner.ensures.value in
    let u = ok_got _ _ c.read_use.ensures c.in_ok-wanted.ensures.value in
    held_not _ (request_more _ _ c.if-bytes-gt-MOST_REQUEST.false _ _ (mapped_got _ _ _ _ (both_got _ _ _ _ t.1 (both_got _ _ _ _ S u.1))) c.if-next-bytes.true)

pub returns : goal.returns
unfolding request_fields
returns c =
    let t = ok_got _ _ c.read_target.ensures c.in_ok-subject.ensures.value in
    let S = same_ok_got _ c.read_space.ensures c.in_ok-owner.ensures.value in
    let u = ok_got _ _ c.read_use.ensures c.in_ok-wanted.ensures.value in
    rw (t.2, u.2) (held _ (request_found _ _ c.if-bytes-gt-MOST_REQUEST.false _ _ (mapped_got _ _ _ _ (both_got _ _ _ _ t.1 (both_got _ _ _ _ S u.1))) c.if-next-bytes.false))
