-- What is left to read says the same as the whole.
use Rattle.review.proofs.WordsLaws.{Reading}
use Rattle.review.proofs.words.read_digits.Given as goal

abbrev pub invariant-loop-byte : goal.invariant-loop-byte
invariant-loop-byte l = Reading l.digits l.value l.byte-index
