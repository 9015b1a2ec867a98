-- `size_of`: one byte for each group of seven bits.
use Rattle.decision.proofs.WritingLaws.{size_one, size_two, size_three}
use Rattle.decision.proofs.writing.size_of.Goals as goal

pub returns-then-number-lt128 : goal.returns-then-number-lt128
returns-then-number-lt128 c = size_one _ c.if-number-lt128.true

pub returns-then-number-lt16384 : goal.returns-then-number-lt16384
returns-then-number-lt16384 c = size_two _ c.if-number-lt128.false c.if-number-lt16384.true

pub returns-else-number-lt16384 : goal.returns-else-number-lt16384
returns-else-number-lt16384 c = size_three _ c.if-number-lt16384.false c.ranges.number.fits
