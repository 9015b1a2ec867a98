-- `collect_edges` goes through the places of the delegations, of which each can be read, and takes each.
use native.Mathlib.Omega.{arith}
use Rattle.keytable.proofs.SiftingLaws.{placed_stands, placed_at}
use Rattle.keytable.proofs.CollectingLaws.{drawn_none, drawn_more}
use Rattle.keytable.proofs.collecting.collect_edges.Goals as goal

pub loop-place-init : goal.loop-place-init
loop-place-init c = (drawn_none _ _ _, omega arith)

pub record_at-requires : goal.record_at-requires
record_at-requires c = placed_stands _ _ _ _ _ c.requires.0.delegations _ c.loop-place-test.true

pub take_delegation-m-requires : goal.take_delegation-m-requires
take_delegation-m-requires c =
    let at = placed_at _ _ _ _ _ c.requires.0.delegations _ c.loop-place-test.true _ c.record_at.ensures in
    ((c.requires.0.good.delegations _ _ at).depth, omega (arith, c.loop-place.invariant.1, c.requires.2))

pub loop-place-preserved : goal.loop-place-preserved
loop-place-preserved c =
    let at = placed_at _ _ _ _ _ c.requires.0.delegations _ c.loop-place-test.true _ c.record_at.ensures in
    (drawn_more _ _ _ _ _ at _ _ _ c.loop-place.invariant.0 c.requires.1 _ _ _ c.take_delegation-m.ensures.turn, omega (arith, c.loop-place.invariant.1, c.take_delegation-m.ensures.few))
