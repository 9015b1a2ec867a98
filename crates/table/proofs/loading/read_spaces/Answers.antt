-- `read_spaces` goes on as `many space_key` does, and keeps each key.
use mathlib.Core.Path.{sym}
use native.Mathlib.Omega.{arith}
use lib.Seq.{length-take-le}
use Rattle.records.specs.Parsed.{after}
use Rattle.records.proofs.ParsedLaws.{same_got, same_bad}
use Rattle.table.proofs.LoadingLaws.{besides_passed}
use Rattle.table.proofs.SpacesLaws.{spaced_start, spaced_fails, spaced_twice, spaced_on, spaced_end}
use Rattle.table.proofs.loading.read_spaces.Goals as goal

pub loop-i-init : goal.loop-i-init
loop-i-init c = spaced_start _ _ _ _

pub returns-in_err-key : goal.returns-in_err-key
returns-in_err-key c = let both = besides_passed after _ c.from_residual.ensures.1 (spaced_fails _ _ _ _ _ _ _ c.loop-i.invariant c.requires c.loop-i-test.true _ (same_bad _ c.in_err-key.ensures)) in record { read = both.0; kept = both.1 }

pub slice_bounds-is_among-end : goal.slice_bounds-is_among-end
slice_bounds-is_among-end c = omega (arith, c.loop-i.invariant.size, c.loop-i-test.true, c.requires)

pub slice_bounds-is_among-end-in-loop-i : goal.slice_bounds-is_among-end-in-loop-i
slice_bounds-is_among-end-in-loop-i c = sym (length-take-le c.loop-i.i c.loop-i.keys (omega (arith, c.loop-i.invariant.size, c.loop-i-test.true, c.requires)))

pub returns-then-is_among : goal.returns-then-is_among
returns-then-is_among c = let both = spaced_twice _ _ _ _ _ _ _ c.loop-i.invariant c.requires c.loop-i-test.true _ _ (same_got _ c.in_ok-key.ensures) _ c.is_among.ensures c.if-is_among.true in rw c.fault_at.ensures (record { read = both.0; kept = both.1 })

pub loop-i-preserved : goal.loop-i-preserved
loop-i-preserved c = spaced_on _ _ _ _ _ _ _ c.loop-i.invariant c.requires c.loop-i-test.true _ _ (same_got _ c.in_ok-key.ensures) _ c.is_among.ensures c.if-is_among.false

pub returns : goal.returns
returns c = let both = spaced_end _ _ _ _ _ _ _ c.loop-i.invariant c.loop-i-test.false in record { read = both.0; kept = both.1 }
