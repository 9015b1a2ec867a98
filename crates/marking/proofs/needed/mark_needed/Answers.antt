-- `mark_needed` passes the listed bindings from the last to the first.
use native.Mathlib.Omega.{arith}
use Rattle.marking.proofs.NeededLaws.{number_there, passed_on}
use Rattle.marking.proofs.needed.mark_needed.Goals as goal

pub mark_for-requires : goal.mark_for-requires
mark_for-requires c = (
  c.requires.0.exact,
  c.requires.1,
  omega (arith, c.requires.2, c.loop-n.invariant.size),
  number_there _ c.args.names.now.known.index.good _ _ c.requires.0 _ (omega (arith, c.loop-n-test.true, c.loop-n.invariant.most)) _ _ c.args.names.now.known.index,
)

pub loop-n-preserved : goal.loop-n-preserved
loop-n-preserved c =
    passed_on _ c.args.names.now.known.index.good _ _ c.requires.0 _ (omega (arith, c.loop-n-test.true, c.loop-n.invariant.most)) _ _ _ _ (omega (arith, c.loop-n-test.true)) c.loop-n.invariant c.mark_for.auto.marks c.mark_for.ensures
