-- `keep_one` passes over a number that is not marked, and moves one that is.
use Rattle.marking.proofs.KeptLaws.{passes_over, takes_one}
use Rattle.marking.proofs.keeping.keep_one.Goals as goal

pub returns-then-not-is_marked : goal.returns-then-not-is_marked
returns-then-not-is_marked c = passes_over _ _ _ _ c.requires.0 _ (rw c.from.ensures at c.is_marked.ensures) c.if-not-is_marked.true

pub returns : goal.returns
returns c = takes_one _ _ _ _ c.requires.0 _ (rw c.from.ensures at c.is_marked.ensures) c.requires.1 c.if-not-is_marked.false
