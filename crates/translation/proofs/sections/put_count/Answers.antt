-- `put_count` writes a count of one byte before the records, and moves them up for one of two.
use native.Mathlib.Omega.{arith}
use Rattle.translation.proofs.SectionsLaws.{counted_before, room_to_move, counted_moved}
use Rattle.translation.proofs.sections.put_count.Goals as goal
use Rattle.translation.proofs.sections.put_count.Goals.{then-written-ge128, else-written-ge128}

pub copy_within-requires-clause-in_bounds : goal.copy_within-requires-clause-in_bounds
copy_within-requires-clause-in_bounds c = omega (arith, room_to_move c.args.out.now _ _ c.requires c.if-written-ge128.true)

pub copy_within-requires-clause-dest_in_bounds : goal.copy_within-requires-clause-dest_in_bounds
copy_within-requires-clause-dest_in_bounds c = omega (arith, c.requires.0, room_to_move c.args.out.now _ _ c.requires c.if-written-ge128.true)

pub returns : goal.returns
returns c =
    elim c.if-written-ge128.branch [
      | then-written-ge128 w ↦ let p = counted_moved _ _ _ c.requires w.if-written-ge128.true _ _ w.copy_within.ensures.after (rw w.out-is at c.put.ensures.1) in (omega (arith, p.0, w.end-is), p.1)
      | else-written-ge128 w ↦ let p = counted_before _ _ _ c.requires w.if-written-ge128.false _ (rw w.out-is at c.put.ensures.1) in (omega (arith, p.0, w.end-is), p.1)
    ]
