-- `read`: what was gathered so far, and what stands behind it.
use mathlib.Core.Path.{refl, ap, ◌∙◌}
use Prim.Native.Nat.{◌%◌}
use native.Mathlib.Omega.{arith}
use Rattle.wire.specs.Number.{number_read}
use Rattle.wire.proofs.ReadingLaws.{gathered_start, gathered_cut, gathered_end, gathered_over, gathered_on, counts_here, low_fits}
use Rattle.wire.proofs.read.Goals as goal

pub loop-i-init : goal.loop-i-init
loop-i-init c = gathered_start _

pub end-requires : goal.end-requires
end-requires c = let f = low_fits _ _ _ (c.from-byte.result % 128) (counts_here _ _ _ _ c.loop-i.invariant) c.loop-i.invariant.small (omega arith) in (c.loop-i.invariant.few, f.3)

pub returns-then-byte-lt128 : goal.returns-then-byte-lt128
returns-then-byte-lt128 c = c.end.ensures ∙ ap number_read (gathered_end _ _ _ _ c.loop-i.invariant _ c.loop-i-test.true c.from-byte.ensures c.if-byte-lt128.true _ refl)

pub returns-then-i-eq4 : goal.returns-then-i-eq4
returns-then-i-eq4 c = ap number_read (gathered_over _ _ _ _ c.loop-i.invariant _ c.loop-i-test.true c.from-byte.ensures c.if-byte-lt128.false c.if-i-eq4.true)

pub loop-i-preserved : goal.loop-i-preserved
loop-i-preserved c = gathered_on _ _ _ _ c.loop-i.invariant _ c.loop-i-test.true c.from-byte.ensures c.if-byte-lt128.false (omega (arith, c.type_inv.rest c.loop-i.i, c.from-byte.ensures)) c.if-i-eq4.false

pub returns : goal.returns
returns c = ap number_read (gathered_cut _ _ _ _ c.loop-i.invariant c.loop-i-test.false)
