-- `find_first` goes on one by one where the eights end: those before `at` are others.
use native.Mathlib.Omega.{arith}
use Rattle.records.proofs.RowsLaws.{passed_on}
use Rattle.records.proofs.rows.find_first.Goals as goal

pub loop-at-init : goal.loop-at-init
loop-at-init c = c.pass_eights-from.ensures

pub returns-then-row-at : goal.returns-then-row-at
returns-then-row-at c = record { passed = c.loop-at.invariant; there = c.loop-at-test.true; here = c.if-row-at.true }

pub loop-at-preserved : goal.loop-at-preserved
loop-at-preserved c = passed_on _ _ _ c.loop-at.invariant c.loop-at-test.true c.if-row-at.false

pub returns : goal.returns
returns c = record { most = omega arith; others = λ j h. c.loop-at.invariant.others j (omega (arith, c.loop-at-test.false, h)) }
