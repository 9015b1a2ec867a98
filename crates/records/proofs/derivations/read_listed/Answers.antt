-- `read_listed` goes on as `many listed_number` does, with a mark for each number that was seen.
use Rattle.records.proofs.ParsedLaws.{same_ok_got, same_ok_bad}
use Rattle.records.proofs.DerivationBytesLaws.{listing_start, listing_fails, listing_below, listing_twice, listing_on, listing_end}
use Rattle.records.proofs.derivations.read_listed.Goals as goal

pub loop-init : goal.loop-init
loop-init c = listing_start _ _ _

pub returns-in_err-value : goal.returns-in_err-value
returns-in_err-value c = rw c.from_residual.ensures (let e = same_ok_bad _ c.read_field.ensures c.in_err-value.ensures.value in listing_fails _ _ _ _ _ _ c.loop.invariant c.loop-test.true _ e.1)

pub bounds-seen-which : goal.bounds-seen-which
bounds-seen-which c = listing_below _ _ _ _ _ _ c.loop.invariant c.loop-test.true _ _ (same_ok_got _ c.read_field.ensures c.in_ok-value.ensures.value)

pub returns-then-seen-which : goal.returns-then-seen-which
returns-then-seen-which c = listing_twice _ _ _ _ _ _ c.loop.invariant c.loop-test.true _ _ (same_ok_got _ c.read_field.ensures c.in_ok-value.ensures.value) c.if-seen-which.true

pub bounds-seen-which-in-loop : goal.bounds-seen-which-in-loop
bounds-seen-which-in-loop c = listing_below _ _ _ _ _ _ c.loop.invariant c.loop-test.true _ _ (same_ok_got _ c.read_field.ensures c.in_ok-value.ensures.value)

pub loop-preserved : goal.loop-preserved
loop-preserved c = listing_on _ _ _ _ _ _ c.loop.invariant c.loop-test.true _ _ (same_ok_got _ c.read_field.ensures c.in_ok-value.ensures.value) c.if-seen-which.false

pub returns : goal.returns
returns c = listing_end _ _ _ _ _ _ c.loop.invariant c.loop-test.false
