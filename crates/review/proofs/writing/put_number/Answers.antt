-- A number takes at most five bytes, and so many are left.
use mathlib.Core.Path.{sym}
use native.Mathlib.Omega.{arith}
use Prim.Native.Nat.{◌≤◌}
use lib.ListN.{length}
use lib.Seq.{length-take-le}
use Rattle.wire.proofs.NumberLaws.{bytes_short}
use Rattle.review.proofs.writing.put_number.Goals as goal

pub put-requires : goal.put-requires
put-requires c = omega (arith, bytes_short c.args.value)

pub returns : goal.returns
returns c = let h : c.put.result ≤ length c.put.new.out = omega (arith, c.put.auto.out, bytes_short c.args.value, c.put.ensures.0) in (h, sym (length-take-le _ _ h))
