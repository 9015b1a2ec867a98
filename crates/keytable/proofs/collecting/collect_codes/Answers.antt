-- `collect_codes` goes through the places of the access records, of which each can be read, and takes each.
use native.Mathlib.Omega.{arith}
use Rattle.keytable.proofs.SiftingLaws.{placed_stands, placed_at}
use Rattle.keytable.proofs.CollectingLaws.{given_more}
use Rattle.keytable.proofs.collecting.collect_codes.Goals as goal

pub record_at-requires : goal.record_at-requires
record_at-requires c = placed_stands _ _ _ _ _ c.requires.0.accesses _ c.loop-place-test.true

pub take_access-requires : goal.take_access-requires
take_access-requires c =
    let at = placed_at _ _ _ _ _ c.requires.0.accesses _ c.loop-place-test.true _ c.record_at.ensures in
    (omega (arith, c.requires.2), (c.requires.0.good.accesses _ _ at).depth)

pub loop-place-preserved : goal.loop-place-preserved
loop-place-preserved c =
    let at = placed_at _ _ _ _ _ c.requires.0.accesses _ c.loop-place-test.true _ c.record_at.ensures in
    given_more _ _ _ _ _ at (c.requires.0.good.accesses _ _ at).depth _ (omega (arith, c.requires.2)) c.loop-place.invariant c.requires.1 _ c.take_access.ensures
