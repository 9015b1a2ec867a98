-- `take_writer` makes a node where the delegation matches; where it does not, none is wanted.
use Rattle.keytable.proofs.MatchingLaws.{asks_no}
use Rattle.keytable.proofs.matching.take_writer.Goals as goal

pub returns-clause-has : goal.returns-clause-has
returns-clause-has c = λ w. absurd (asks_no _ _ _ _ c.is_asked.ensures c.if-is_asked.false w)
