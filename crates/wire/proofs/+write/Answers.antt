-- `wire::write` meets its contract: the first byte placed, and behind it what the call on the rest places. The number falls.
use Prim.Native.Nat.{◌/◌}
use native.Mathlib.Omega.{arith}
use lib.ListN.{length-set}
use Rattle.wire.proofs.NumberLaws.{bytes_some, bytes_short}
use Rattle.wire.proofs.WritingLaws.{written_last, room_on, written_on}
use Rattle.wire.proofs.+write.Goals as goal

pub bounds-out-0 : goal.bounds-out-0
bounds-out-0 t c = omega (arith, bytes_some c.args.value)

pub returns-then-value-lt128 : goal.returns-then-value-lt128
returns-then-value-lt128 t c = written_last _ _ c.requires c.if-value-lt128.true

pub bounds-out-0-2 : goal.bounds-out-0-2
bounds-out-0-2 t c = omega (arith, bytes_some c.args.value)

pub slice_bounds-write-count : goal.slice_bounds-write-count
slice_bounds-write-count t c = simp length-set (omega (arith, bytes_some c.args.value))

pub slice_bounds-write-start : goal.slice_bounds-write-start
slice_bounds-write-start t c = simp length-set (omega (arith, bytes_some c.args.value))

pub write-requires : goal.write-requires
write-requires t c = (omega arith, room_on c.args.out.now c.args.value c.requires c.if-value-lt128.false (omega arith))

pub overflow_add-result : goal.overflow_add-result
overflow_add-result t c = omega (arith, c.write.ensures.0, bytes_short (c.args.value / 128))

pub returns : goal.returns
returns t c = written_on _ _ c.requires c.if-value-lt128.false (omega arith) _ _ c.write.ensures
