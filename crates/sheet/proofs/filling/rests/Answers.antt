-- `rests` answers by cases.
use Rattle.sheet.proofs.WaitingLaws.{rests_filled, rests_waiting, rests_due}
use Rattle.sheet.proofs.filling.rests.Goals as goal

pub returns-then-sheet-i-ne0 : goal.returns-then-sheet-i-ne0
returns-then-sheet-i-ne0 c = rests_filled _ _ _ c.if-sheet-i-ne0.true

pub returns-then-waits-i-ne0 : goal.returns-then-waits-i-ne0
returns-then-waits-i-ne0 c = rests_waiting _ _ _ c.if-sheet-i-ne0.false c.if-waits-i-ne0.true

pub returns-else-waits-i-ne0 : goal.returns-else-waits-i-ne0
returns-else-waits-i-ne0 c = rests_due _ _ _ c.if-sheet-i-ne0.false c.if-waits-i-ne0.false
