-- The library compares two words byte by byte.
use native.Mathlib.Omega.{arith}
use Rattle.review.proofs.WordsLaws.{pointwise_alike}
use Rattle.review.proofs.words.same.Goals as goal

pub returns : goal.returns
returns c = grind (arith, pointwise_alike)
