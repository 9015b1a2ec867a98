-- `read_delegation` passes on the fault of the first part that has one, and else finds all five.
use Rattle.records.specs.Delegations.{delegation_record}
use Rattle.records.proofs.ParsedLaws.{same_got, same_bad, found_got, found_bad, as_got, passed_on, both_got, both_first, both_then, mapped_got, mapped_bad}
use Rattle.records.proofs.delegations.read_delegation.Goals as goal

pub returns-in_err-writer : goal.returns-in_err-writer
unfolding delegation_record
returns-in_err-writer c = passed_on _ c.from_residual.ensures.1 (mapped_bad _ _ _ _ (both_first _ _ _ _ (same_bad _ c.in_err-writer.ensures)))

pub returns-in_err-owner : goal.returns-in_err-owner
unfolding delegation_record
returns-in_err-owner c = passed_on _ c.from_residual-in_err-owner.ensures.1 (mapped_bad _ _ _ _ (both_then _ _ _ _ (same_got _ c.in_ok-writer.ensures) (both_first _ _ _ _ (found_bad _ _ c.in_err-owner.ensures))))

pub returns-in_err-wanted : goal.returns-in_err-wanted
unfolding delegation_record
returns-in_err-wanted c = passed_on _ c.from_residual-in_err-wanted.ensures.1 (mapped_bad _ _ _ _ (both_then _ _ _ _ (same_got _ c.in_ok-writer.ensures) (both_then _ _ _ _ (found_got _ _ c.in_ok-owner.ensures).1 (both_first _ _ _ _ (found_bad _ _ c.in_err-wanted.ensures)))))

pub returns-in_err-delegatee : goal.returns-in_err-delegatee
unfolding delegation_record
returns-in_err-delegatee c = passed_on _ c.from_residual-in_err-delegatee.ensures.1 (mapped_bad _ _ _ _ (both_then _ _ _ _ (same_got _ c.in_ok-writer.ensures) (both_then _ _ _ _ (found_got _ _ c.in_ok-owner.ensures).1 (both_then _ _ _ _ (found_got _ _ c.in_ok-wanted.ensures).1 (both_first _ _ _ _ (found_bad _ _ c.in_err-delegatee.ensures))))))

pub returns-in_err-depth : goal.returns-in_err-depth
unfolding delegation_record
returns-in_err-depth c = passed_on _ c.from_residual-in_err-depth.ensures.1 (mapped_bad _ _ _ _ (both_then _ _ _ _ (same_got _ c.in_ok-writer.ensures) (both_then _ _ _ _ (found_got _ _ c.in_ok-owner.ensures).1 (both_then _ _ _ _ (found_got _ _ c.in_ok-wanted.ensures).1 (both_then _ _ _ _ (found_got _ _ c.in_ok-delegatee.ensures).1 (found_bad _ _ c.in_err-depth.ensures))))))

pub returns : goal.returns
unfolding delegation_record
returns c =
    let p = found_got _ _ c.in_ok-owner.ensures in
    let u = found_got _ _ c.in_ok-wanted.ensures in
    let q = found_got _ _ c.in_ok-delegatee.ensures in
    let d = found_got _ _ c.in_ok-depth.ensures in
    rw (p.2, u.2, q.2, d.2)
    (as_got _ (mapped_got _ _ _ _ (both_got _ _ _ _ (same_got _ c.in_ok-writer.ensures) (both_got _ _ _ _ p.1 (both_got _ _ _ _ u.1 (both_got _ _ _ _ q.1 d.1))))))
