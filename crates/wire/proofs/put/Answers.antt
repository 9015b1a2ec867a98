-- `wire::put` meets its contract: what `write` places at the start of the rest, said of the whole.
use native.Mathlib.Omega.{arith}
use Rattle.wire.specs.Number.{bytes_of}
use Rattle.wire.proofs.PlacedLaws.{placed_rest}
use Rattle.wire.proofs.put.Goals as goal

pub returns : goal.returns
returns c = (omega (arith, c.write.ensures.0), placed_rest c.args.out.now c.write.new.out (bytes_of c.args.value) c.args.at c.write.ensures.1)
