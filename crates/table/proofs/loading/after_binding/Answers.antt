-- `after_binding` passes over the binding where it can, and reads it otherwise.
use native.Mathlib.Omega.{arith}
use Rattle.table.proofs.BindingsLaws.{passed_within, passed_name, read_within, read_name, wrong_within, wrong_name}
use Rattle.table.proofs.loading.after_binding.Goals as goal

pub overflow_add-result : goal.overflow_add-result
overflow_add-result c = omega (arith, passed_within _ c.args.earlier.now c.args.table.now _ c.requires.0 _ _ c.in-Some.ensures _ c.is_marked_among.ensures c.if-not-is_marked_among.true, c.requires.1)

pub returns-then-not-is_marked_among : goal.returns-then-not-is_marked_among
returns-then-not-is_marked_among c = passed_name _ c.args.earlier.now c.args.table.now _ c.requires.0 _ _ c.in-Some.ensures _ c.is_marked_among.ensures c.if-not-is_marked_among.true

pub pack-requires : goal.pack-requires
pack-requires c = let w = read_within _ c.args.earlier.now c.args.table.now _ c.requires.0 _ _ c.in-Ok.ensures in (omega (arith, w.0, c.requires.2), w.1)

pub overflow_add-result-in-Ok : goal.overflow_add-result-in-Ok
overflow_add-result-in-Ok c = omega (arith, (read_within _ c.args.earlier.now c.args.table.now _ c.requires.0 _ _ c.in-Ok.ensures).2, c.requires.1)

pub moved-requires : goal.moved-requires
moved-requires c = omega (arith, wrong_within _ c.args.earlier.now c.args.table.now _ c.requires.0 _ c.in-Err.ensures, c.requires.1)

pub returns-in-Ok : goal.returns-in-Ok
returns-in-Ok c = read_name _ c.args.earlier.now c.args.table.now _ c.requires.0 _ _ c.in-Ok.ensures _ c.pack.ensures

pub returns-in-Err : goal.returns-in-Err
returns-in-Err c = rw c.moved.ensures (wrong_name _ c.args.earlier.now c.args.table.now _ c.requires.0 _ c.in-Err.ensures)
