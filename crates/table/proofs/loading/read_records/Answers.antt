-- `read_records` goes on as `many` of them does, and keeps their places.
use native.Mathlib.Omega.{arith}
use Rattle.records.specs.Parsed.{after}
use Rattle.table.proofs.LoadingLaws.{besides_passed}
use Rattle.table.proofs.PlacingLaws.{placing_start, placing_bad, placing_on, placing_end}
use Rattle.table.proofs.loading.read_records.Goals as goal

pub loop-i-init : goal.loop-i-init
loop-i-init g c = placing_start _ _ _ _ _ _ c.requires.1

pub after_record-requires : goal.after_record-requires
after_record-requires g c = (c.loop-i.invariant.reading.within, c.requires.2)

pub returns-in_err-next : goal.returns-in_err-next
returns-in_err-next g c = let both = besides_passed after _ c.from_residual.ensures.1 (placing_bad _ _ _ _ _ _ _ _ _ c.loop-i.invariant c.loop-i-test.true _ c.in_err-next.ensures) in record { read = both.0; kept = both.1 }

pub overflow_cast-places : goal.overflow_cast-places
overflow_cast-places g c = omega (arith, c.loop-i.invariant.reading.within, c.requires.2)

pub bounds-places-i : goal.bounds-places-i
bounds-places-i g c = omega (arith, c.loop-i-test.true, c.requires.0, c.loop-i.invariant.size)

pub loop-i-preserved : goal.loop-i-preserved
loop-i-preserved g c = placing_on _ _ _ _ _ _ _ _ _ c.loop-i.invariant c.loop-i-test.true _ c.in_ok-next.ensures c.requires.0

pub returns : goal.returns
returns g c = let both = placing_end _ _ _ _ _ _ _ _ _ c.loop-i.invariant c.loop-i-test.false in record { read = both.0; kept = both.1 }
