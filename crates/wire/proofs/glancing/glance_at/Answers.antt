-- `glance_at` gathers groups as `read` does; the bounds were looked at before.
use Prim.Native.Nat.{◌+◌}
use native.Mathlib.Omega.{arith}
use Rattle.wire.proofs.GlancingLaws.{glancing_start, glancing_fits, glancing_short, glancing_on, glancing_told, glancing_last}
use Rattle.wire.proofs.glancing.glance_at.Goals as goal

pub loop-i-init : goal.loop-i-init
loop-i-init c = glancing_start _ _ _ _ c.requires.0

pub overflow_mul-value : goal.overflow_mul-value
overflow_mul-value c = omega (arith, (glancing_fits _ _ _ _ _ _ _ _ c.loop-i.invariant c.from-byte.result c.loop-i-test.true c.requires.1).0)

pub overflow_add-value : goal.overflow_add-value
overflow_add-value c = omega (arith, (glancing_fits _ _ _ _ _ _ _ _ c.loop-i.invariant c.from-byte.result c.loop-i-test.true c.requires.1).1)

pub returns-else-byte-least : goal.returns-else-byte-least
returns-else-byte-least c = glancing_told _ _ _ _ _ _ _ _ c.loop-i.invariant _ (omega (arith, c.if-s-more-2.false, c.loop-i-test.true)) c.from-byte.ensures c.if-byte-least.false c.if-byte-lt128.true _ (glancing_short _ _ _ _ _ _ _ _ c.loop-i.invariant _ _ c.loop-i-test.true) (omega (arith, c.requires.3))

pub overflow_mul-unit : goal.overflow_mul-unit
overflow_mul-unit c = omega (arith, (glancing_fits _ _ _ _ _ _ _ _ c.loop-i.invariant 0 c.loop-i-test.true c.requires.1).2)

pub loop-i-preserved : goal.loop-i-preserved
loop-i-preserved c = glancing_on _ _ _ _ _ _ _ _ c.loop-i.invariant _ (omega (arith, c.if-s-more-2.false, c.loop-i-test.true)) c.from-byte.ensures c.loop-i-test.true c.if-byte-lt128.false (omega (arith, c.type_inv.s (c.args.at + c.loop-i.i), c.from-byte.ensures)) c.requires.1

pub returns : goal.returns
returns c = glancing_last _ _ _ _ _ _ _ _ c.loop-i.invariant c.loop-i-test.false _ (omega (arith, c.if-s-more-2.false)) c.from-byte-2.ensures _ c.if-byte-least-2.false c.if-last-byte.false c.requires.2 c.requires.3
