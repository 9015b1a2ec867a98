-- `write_kept` adds up the bytes, and writes them if they fit.
use native.Mathlib.Omega.{arith}
use Rattle.decision.proofs.WritingLaws.{listing_fits, ending_fits, size_fits, too_long, wrote_it}
use Rattle.decision.proofs.writing.write_kept.Goals as goal

pub overflow_add-listing : goal.overflow_add-listing
overflow_add-listing c = omega (arith, listing_fits c.args.bindings.now c.requires.0 _ _ _ c.size_of.ensures c.size_of_all.ensures)

pub overflow_add-ending : goal.overflow_add-ending
overflow_add-ending c = omega (arith, ending_fits _ _ _ _ c.size_of-2.ensures c.size_of-3.ensures)

pub overflow_add-ending-2 : goal.overflow_add-ending-2
overflow_add-ending-2 c = omega (arith, size_fits c.args.bindings.now c.args.chain.now c.args.access c.requires.0 c.requires.1 _ _ _ _ _ c.size_of.ensures c.size_of_all.ensures c.size_of-2.ensures c.size_of-3.ensures c.size_of_all-2.ensures)

pub overflow_add-listing-2 : goal.overflow_add-listing-2
overflow_add-listing-2 c = omega (arith, size_fits c.args.bindings.now c.args.chain.now c.args.access c.requires.0 c.requires.1 _ _ _ _ _ c.size_of.ensures c.size_of_all.ensures c.size_of-2.ensures c.size_of-3.ensures c.size_of_all-2.ensures)

pub returns-then-listing-ending-gt-MOST_DERIVATION : goal.returns-then-listing-ending-gt-MOST_DERIVATION
returns-then-listing-ending-gt-MOST_DERIVATION c = too_long c.args.bindings.now c.args.chain.now c.args.access c.requires.0 c.requires.1 _ _ _ _ _ c.size_of.ensures c.size_of_all.ensures c.size_of-2.ensures c.size_of-3.ensures c.size_of_all-2.ensures _ c.if-listing-ending-gt-MOST_DERIVATION.true

pub returns : goal.returns
returns c = wrote_it c.args.bindings.now c.args.chain.now c.args.access c.requires.0 c.requires.1 _ _ _ _ _ c.size_of.ensures c.size_of_all.ensures c.size_of-2.ensures c.size_of-3.ensures c.size_of_all-2.ensures _ _ _ c.if-listing-ending-gt-MOST_DERIVATION.false (rw c.from.ensures at c.write_derivation.ensures)
