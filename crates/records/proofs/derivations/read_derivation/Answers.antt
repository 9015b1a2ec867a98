-- `read_derivation` answers a derivation where all of it reads to the last byte, and else none.
use Rattle.records.proofs.ParsedLaws.{same_ok_got, same_ok_bad}
use Rattle.records.proofs.RequestsLaws.{held_not}
use Rattle.records.proofs.DerivationBytesLaws.{derivation_long, count_fails, listed_fail, length_fails, access_fails, chain_some, rest_fails, derivation_more, derivation_found}
use Rattle.records.proofs.derivations.read_derivation.Goals as goal

pub returns-then-bytes-gt-MOST_DERIVATION : goal.returns-then-bytes-gt-MOST_DERIVATION
returns-then-bytes-gt-MOST_DERIVATION c = held_not _ (derivation_long _ c.if-bytes-gt-MOST_DERIVATION.true)

pub returns-in_err-count : goal.returns-in_err-count
returns-in_err-count c = let e = same_ok_bad _ c.read_field.ensures c.in_err-count.ensures.value in rw c.from_residual.ensures (held_not _ (count_fails _ c.if-bytes-gt-MOST_DERIVATION.false _ e.1))

pub returns-in_err-at : goal.returns-in_err-at
returns-in_err-at c = rw c.from_residual-in_err-at.ensures (held_not _ (listed_fail _ c.if-bytes-gt-MOST_DERIVATION.false _ _ (same_ok_got _ c.read_field.ensures c.in_ok-count.ensures.value) c.in_err-at.ensures))

pub returns-in_err-records : goal.returns-in_err-records
returns-in_err-records c = let e = same_ok_bad _ c.read_field-2.ensures c.in_err-records.ensures.value in rw c.from_residual-in_err-records.ensures (held_not _ (length_fails _ c.if-bytes-gt-MOST_DERIVATION.false _ _ (same_ok_got _ c.read_field.ensures c.in_ok-count.ensures.value) _ c.in_ok-at.ensures _ e.1))

pub returns-in_err-from : goal.returns-in_err-from
returns-in_err-from c = let e = same_ok_bad _ c.read_field-3.ensures c.in_err-from.ensures.value in rw c.from_residual-in_err-from.ensures (held_not _ (access_fails _ c.if-bytes-gt-MOST_DERIVATION.false _ _ (same_ok_got _ c.read_field.ensures c.in_ok-count.ensures.value) _ c.in_ok-at.ensures _ _ (same_ok_got _ c.read_field-2.ensures c.in_ok-records.ensures.value) _ e.1))

pub overflow_sub-delegations : goal.overflow_sub-delegations
overflow_sub-delegations c = chain_some _ c.if-bytes-gt-MOST_DERIVATION.false _ _ (same_ok_got _ c.read_field.ensures c.in_ok-count.ensures.value) _ c.in_ok-at.ensures _ _ (same_ok_got _ c.read_field-2.ensures c.in_ok-records.ensures.value)

pub returns-in_err-end : goal.returns-in_err-end
returns-in_err-end c = rw c.from_residual-in_err-end.ensures (held_not _ (rest_fails _ c.if-bytes-gt-MOST_DERIVATION.false _ _ (same_ok_got _ c.read_field.ensures c.in_ok-count.ensures.value) _ c.in_ok-at.ensures _ _ (same_ok_got _ c.read_field-2.ensures c.in_ok-records.ensures.value) _ _ (same_ok_got _ c.read_field-3.ensures c.in_ok-from.ensures.value) c.in_err-end.ensures))

pub returns-then-end-bytes : goal.returns-then-end-bytes
returns-then-end-bytes c = held_not _ (derivation_more _ c.if-bytes-gt-MOST_DERIVATION.false _ _ (same_ok_got _ c.read_field.ensures c.in_ok-count.ensures.value) _ c.in_ok-at.ensures _ _ (same_ok_got _ c.read_field-2.ensures c.in_ok-records.ensures.value) _ _ (same_ok_got _ c.read_field-3.ensures c.in_ok-from.ensures.value) _ c.in_ok-end.ensures c.if-end-bytes.true)

pub returns : goal.returns
returns c = derivation_found _ c.if-bytes-gt-MOST_DERIVATION.false _ _ (same_ok_got _ c.read_field.ensures c.in_ok-count.ensures.value) _ c.in_ok-at.ensures _ _ (same_ok_got _ c.read_field-2.ensures c.in_ok-records.ensures.value) _ _ (same_ok_got _ c.read_field-3.ensures c.in_ok-from.ensures.value) _ c.in_ok-end.ensures c.if-end-bytes.false
