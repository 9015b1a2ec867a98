-- `read_key_access` passes on the fault of the first part that has one, and else finds all four.
use Rattle.records.specs.KeyRecords.{key_access_record}
use Rattle.records.proofs.ParsedLaws.{same_got, same_bad, found_got, found_bad, as_got, passed_on, both_got, both_first, both_then, mapped_got, mapped_bad}
use Rattle.records.proofs.keys.read_key_access.Goals as goal

pub returns-in_err-owner : goal.returns-in_err-owner
unfolding key_access_record
returns-in_err-owner c = passed_on _ c.from_residual.ensures.1 (mapped_bad _ _ _ _ (both_first _ _ _ _ (same_bad _ c.in_err-owner.ensures)))

pub returns-in_err-wanted : goal.returns-in_err-wanted
unfolding key_access_record
returns-in_err-wanted c = passed_on _ c.from_residual-in_err-wanted.ensures.1 (mapped_bad _ _ _ _ (both_then _ _ _ _ (same_got _ c.in_ok-owner.ensures) (both_first _ _ _ _ (found_bad _ _ c.in_err-wanted.ensures))))

pub returns-in_err-subject : goal.returns-in_err-subject
unfolding key_access_record
returns-in_err-subject c = passed_on _ c.from_residual-in_err-subject.ensures.1 (mapped_bad _ _ _ _ (both_then _ _ _ _ (same_got _ c.in_ok-owner.ensures) (both_then _ _ _ _ (found_got _ _ c.in_ok-wanted.ensures).1 (both_first _ _ _ _ (same_bad _ c.in_err-subject.ensures)))))

pub returns-in_err-depth : goal.returns-in_err-depth
unfolding key_access_record
returns-in_err-depth c = passed_on _ c.from_residual-in_err-depth.ensures.1 (mapped_bad _ _ _ _ (both_then _ _ _ _ (same_got _ c.in_ok-owner.ensures) (both_then _ _ _ _ (found_got _ _ c.in_ok-wanted.ensures).1 (both_then _ _ _ _ (same_got _ c.in_ok-subject.ensures) (found_bad _ _ c.in_err-depth.ensures)))))

pub returns : goal.returns
unfolding key_access_record
returns c =
    let u = found_got _ _ c.in_ok-wanted.ensures in
    let d = found_got _ _ c.in_ok-depth.ensures in
    rw (u.2, d.2)
    (as_got _ (mapped_got _ _ _ _ (both_got _ _ _ _ (same_got _ c.in_ok-owner.ensures) (both_got _ _ _ _ u.1 (both_got _ _ _ _ (same_got _ c.in_ok-subject.ensures) d.1)))))
