-- `read_key_request` answers a key request where all of it reads to the last byte, and else none.
use Rattle.records.specs.Requests.{key_request_fields}
use Rattle.records.proofs.ParsedLaws.{ok_got, ok_bad, same_ok_got, same_ok_bad, both_got, both_first, both_then, mapped_got, mapped_bad}
use Rattle.records.proofs.RequestsLaws.{held, held_not, key_request_long, key_request_not, key_request_more, key_request_found}
use Rattle.records.proofs.requests.read_key_request.Goals as goal

pub returns-then-bytes-gt-MOST_REQUEST : goal.returns-then-bytes-gt-MOST_REQUEST
returns-then-bytes-gt-MOST_REQUEST c = held_not _ (key_request_long _ c.if-bytes-gt-MOST_REQUEST.true)

pub returns-in_err-subject : goal.returns-in_err-subject
unfolding key_request_fields
returns-in_err-subject c =
    let e = same_ok_bad _ c.read_key.ensures c.in_err-subject.ensures.value in
    rw c.from_residual.ensures (held_not _ (key_request_not _ c.if-bytes-gt-MOST_REQUEST.false _ (mapped_bad _ _ _ _ (both_first _ _ _ _ e.1))))

pub returns-in_err-owner : goal.returns-in_err-owner
unfolding key_request_fields
returns-in_err-owner c =
    let k = same_ok_got _ c.read_key.ensures c.in_ok-subject.ensures.value in
    let e = same_ok_bad _ c.read_key-2.ensures c.in_err-owner.ensures.value in
    rw c.from_residual-in_err-owner.ensures (held_not _ (key_request_not _ c.if-bytes-gt-MOST_REQUEST.false _ (mapped_bad _ _ _ _ (both_then _ _ _ _ k (both_first _ _ _ _ e.1)))))

pub returns-in_err-wanted : goal.returns-in_err-wanted
unfolding key_request_fields
returns-in_err-wanted c =
    let k = same_ok_got _ c.read_key.ensures c.in_ok-subject.ensures.value in
    let l = same_ok_got _ c.read_key-2.ensures c.in_ok-owner.ensures.value in
    let e = ok_bad _ _ c.read_use.ensures c.in_err-wanted.ensures.value in
    rw c.from_residual-in_err-wanted.ensures (held_not _ (key_request_not _ c.if-bytes-gt-MOST_REQUEST.false _ (mapped_bad _ _ _ _ (both_then _ _ _ _ k (both_then _ _ _ _ l e.1)))))

pub returns-then-next-bytes : goal.returns-then-next-bytes
unfolding key_request_fields
returns-then-next-bytes c =
    let k = same_ok_got _ c.read_key.ensures c.in_ok-subject.ensures.value in
    let l = same_ok_got _ c.read_key-2.ensures c.in_ok-owner.ensures.value in
    let u = ok_got _ _ c.read_use.ensures c.in_ok-wanted.ensures.value in
    held_not _ (key_request_more _ c.if-bytes-gt-MOST_REQUEST.false _ _ (mapped_got _ _ _ _ (both_got _ _ _ _ k (both_got _ _ _ _ l u.1))) c.if-next-bytes.true)

pub returns : goal.returns
unfolding key_request_fields
returns c =
    let k = same_ok_got _ c.read_key.ensures c.in_ok-subject.ensures.value in
    let l = same_ok_got _ c.read_key-2.ensures c.in_ok-owner.ensures.value in
    let u = ok_got _ _ c.read_use.ensures c.in_ok-wanted.ensures.value in
    rw u.2 (held _ (key_request_found _ c.if-bytes-gt-MOST_REQUEST.false _ _ (mapped_got _ _ _ _ (both_got _ _ _ _ k (both_got _ _ _ _ l u.1))) c.if-next-bytes.false))
