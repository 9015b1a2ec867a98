-- `read_records` goes on as `many` of them does, one after the other, and keeps the places of those that are for what is asked.
use native.Mathlib.Omega.{arith}
use Rattle.std.proofs.Common.{rules}
use Rattle.records.specs.Parsed.{found_as}
use Rattle.table.proofs.LoadingLaws.{besides_passed}
use Rattle.keytable.specs.Keeping.{sifted}
use Rattle.keytable.proofs.SiftingLaws.{sifting_start, sifting_few, sifting_room, sifting_bad, sifting_on, sifting_end}
use Rattle.keytable.proofs.loading.read_records.Goals as goal

pub loop-init : goal.loop-init
loop-init g c = sifting_start _ _ _ _ _ _ _ c.requires.1

pub returns-in_err-asked-clause-read : goal.returns-in_err-asked-clause-read
returns-in_err-asked-clause-read g c = (besides_passed (found_as (sifted _)) _ c.from_residual.ensures.1 (sifting_bad _ _ _ _ _ _ _ _ _ _ _ c.loop.invariant c.requires.0 c.loop-test.true _ c.in_err-asked.ensures)).0

pub returns-in_err-asked-clause-kept : goal.returns-in_err-asked-clause-kept
returns-in_err-asked-clause-kept g c = (sifting_bad _ _ _ _ _ _ _ _ _ _ _ c.loop.invariant c.requires.0 c.loop-test.true _ c.in_err-asked.ensures).1

pub offset_bounds-places-n : goal.offset_bounds-places-n
offset_bounds-places-n g c = omega (arith, sifting_room _ _ _ _ _ _ _ _ _ _ _ c.loop.invariant c.requires.0 c.loop-test.true, c.loop.invariant.size)

pub bounds-places-n : goal.bounds-places-n
bounds-places-n g c = sifting_room _ _ _ _ _ _ _ _ _ _ _ c.loop.invariant c.requires.0 c.loop-test.true

pub overflow_add-n : goal.overflow_add-n
overflow_add-n g c = omega (arith, sifting_few _ _ _ _ _ _ _ _ _ _ _ (sifting_on _ _ _ _ _ _ _ _ _ _ _ c.loop.invariant c.requires.0 c.loop-test.true _ _ c.in_ok-asked.ensures c.from-n.result (search rules)))

pub loop-preserved : goal.loop-preserved
loop-preserved g c = sifting_on _ _ _ _ _ _ _ _ _ _ _ c.loop.invariant c.requires.0 c.loop-test.true _ _ c.in_ok-asked.ensures c.from-n.result (search rules)

pub returns-clause-read : goal.returns-clause-read
returns-clause-read g c = (sifting_end _ _ _ _ _ _ _ _ _ _ _ c.loop.invariant c.requires.0 c.loop-test.false).0

pub returns-clause-kept : goal.returns-clause-kept
returns-clause-kept g c = (sifting_end _ _ _ _ _ _ _ _ _ _ _ c.loop.invariant c.requires.0 c.loop-test.false).1
