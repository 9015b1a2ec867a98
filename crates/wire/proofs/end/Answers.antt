-- `end`: the tests that led to an answer say which case of `ended` it is.
use mathlib.Core.Path.{ap}
use native.Mathlib.Omega.{arith}
use Rattle.wire.specs.Number.{number_read}
use Rattle.wire.proofs.ReadingLaws.{ended_first, ended_zero, ended_large, ended_value}
use Rattle.wire.proofs.end.Goals as goal
use Rattle.wire.proofs.end.Goals.{then-byte-eq0-via-then-byte-eq0, then-byte-eq0-via-else-byte-eq0+then-from-value}

pub returns-then-i-eq0 : goal.returns-then-i-eq0
returns-then-i-eq0 c = ap number_read (ended_first _ _ _ c.if-i-eq0.true)

pub returns-then-byte-eq0 : goal.returns-then-byte-eq0
returns-then-byte-eq0 c =
    elim c.then-byte-eq0.branch [
      | then-byte-eq0-via-then-byte-eq0 w ↦ ap number_read (ended_zero _ _ _ c.if-i-eq0.false w.if-byte-eq0.true)
      | then-byte-eq0-via-else-byte-eq0+then-from-value w ↦ ap number_read (ended_large _ _ _ c.if-i-eq0.false w.if-byte-eq0.false (omega (arith, w.if-from-value.true, w.from.ensures)))
    ]

pub returns : goal.returns
returns c = ap number_read (ended_value _ _ _ c.if-i-eq0.false c.if-byte-eq0.false (omega (arith, c.if-from-value.false, c.from.ensures)))
