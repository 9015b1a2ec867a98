-- The answer is as promised, and the hashes are those of what stands there then.
use mathlib.Core.Path.{◌∙◌, ap}
use native.Mathlib.Omega.{arith}
use Rattle.wire.proofs.PartsLaws.{rest_of}
use Rattle.kernel.proofs.WrittenLaws.{derivation_written}
use Rattle.vectors.specs.Hashes.{hash_of}
use Rattle.vectors.proofs.decisions.row_of.Goals as goal

pub slice_bounds-hash_of-count : goal.slice_bounds-hash_of-count
slice_bounds-hash_of-count c = omega (arith, derivation_written c.rustamgheb_decide-answer.ensures)

pub slice_bounds-hash_of-start : goal.slice_bounds-hash_of-start
slice_bounds-hash_of-start c = omega (arith, derivation_written c.rustamgheb_decide-answer.ensures)

pub returns-clause-rest : goal.returns-clause-rest
returns-clause-rest c = c.hash_of.ensures ∙ ap hash_of (rest_of c.rustamgheb_decide-answer.new.derivation c.rustamgheb_decide-answer.result.length)

pub returns-clause-fits : goal.returns-clause-fits
returns-clause-fits c = derivation_written c.rustamgheb_decide-answer.ensures
