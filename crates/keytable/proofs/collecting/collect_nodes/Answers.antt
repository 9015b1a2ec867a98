-- `collect_nodes` goes through the places of the delegations, of which each can be read, and takes the writer of each.
use Rattle.keytable.proofs.SiftingLaws.{placed_stands, placed_at}
use Rattle.keytable.proofs.CollectingLaws.{collecting_on}
use Rattle.keytable.proofs.collecting.collect_nodes.Goals as goal

pub record_at-requires : goal.record_at-requires
record_at-requires c = placed_stands _ _ _ _ _ c.requires.0.delegations _ c.loop-place-test.true

pub loop-place-preserved : goal.loop-place-preserved
loop-place-preserved c =
    let at = placed_at _ _ _ _ _ c.requires.0.delegations _ c.loop-place-test.true _ c.record_at.ensures in
    collecting_on _ _ _ _ _ _ _ at c.loop-place.invariant c.take_writer.ensures.grown c.take_writer.ensures.has c.take_writer.ensures.few
