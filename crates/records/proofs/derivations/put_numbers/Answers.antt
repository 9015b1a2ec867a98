-- `put_numbers` keeps the first `i` numbers written, one behind the other.
use Rattle.records.proofs.PutLaws.{putting_start, putting_room, putting_on, putting_end}
use Rattle.records.proofs.derivations.put_numbers.Goals as goal

pub loop-number-init : goal.loop-number-init
loop-number-init c = putting_start _ _ _

pub put-at-requires : goal.put-at-requires
put-at-requires c = putting_room _ _ _ c.requires _ _ _ c.loop-number.invariant c.loop-number-test.true _ c.from.ensures

pub loop-number-preserved : goal.loop-number-preserved
loop-number-preserved c = putting_on _ _ _ c.requires _ _ _ c.loop-number.invariant c.loop-number-test.true _ c.from.ensures _ _ c.put-at.ensures

pub returns : goal.returns
returns c = putting_end _ _ _ c.requires _ _ _ c.loop-number.invariant c.loop-number-test.false
