-- `read_bindings` goes on as `many` of bindings does, and keeps each name packed, and its place.
use mathlib.Core.Path.{sym}
use native.Mathlib.Omega.{arith}
use lib.Seq.{length-take-le}
use Rattle.records.specs.Parsed.{after}
use Rattle.table.proofs.LoadingLaws.{besides_passed}
use Rattle.table.proofs.BindingsLaws.{binds_start, binds_bad, binds_on, binds_end}
use Rattle.table.proofs.loading.read_bindings.Goals as goal

pub loop-i-init : goal.loop-i-init
loop-i-init c = binds_start _ _ _ _ _ _ _ _ c.requires.3 c.requires.5

pub slice_bounds-after_binding-end : goal.slice_bounds-after_binding-end
slice_bounds-after_binding-end c = omega (arith, c.loop-i.invariant.size, c.loop-i-test.true, c.requires.0)

pub slice_bounds-after_binding-end-in-loop-i : goal.slice_bounds-after_binding-end-in-loop-i
slice_bounds-after_binding-end-in-loop-i c = sym (length-take-le c.loop-i.i c.loop-i.names (omega (arith, c.loop-i.invariant.size, c.loop-i-test.true, c.requires.0)))

pub after_binding-requires : goal.after_binding-requires
after_binding-requires c = (c.loop-i.invariant.reading.within, c.requires.4, c.requires.2, c.loop-i.invariant.marked)

pub bounds-names-i : goal.bounds-names-i
bounds-names-i c = omega (arith, c.loop-i-test.true, c.requires.0, c.loop-i.invariant.size)

pub mark-requires : goal.mark-requires
mark-requires c = c.loop-i.invariant.marked.room

pub overflow_cast-places : goal.overflow_cast-places
overflow_cast-places c = omega (arith, c.loop-i.invariant.reading.within, c.requires.4)

pub bounds-places-i : goal.bounds-places-i
bounds-places-i c = omega (arith, c.loop-i-test.true, c.requires.1, c.loop-i.invariant.many)

pub loop-i-preserved : goal.loop-i-preserved
loop-i-preserved c = binds_on _ _ _ _ _ _ _ _ _ _ _ _ _ c.loop-i.invariant c.requires.0 c.requires.1 c.loop-i-test.true _ _ _ c.in_ok-name.ensures c.mark.ensures

pub returns-in_err-name : goal.returns-in_err-name
returns-in_err-name c = let both = besides_passed after _ c.from_residual.ensures.1 (binds_bad _ _ _ _ _ _ _ _ _ _ _ _ _ c.loop-i.invariant c.requires.0 c.requires.1 c.loop-i-test.true _ c.in_err-name.ensures) in record { read = both.0; kept = both.1 }

pub returns : goal.returns
returns c = let both = binds_end _ _ _ _ _ _ _ _ _ _ _ _ _ c.loop-i.invariant c.loop-i-test.false in record { read = both.0; kept = both.1 }
