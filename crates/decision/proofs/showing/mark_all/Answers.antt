-- `mark_all` marks for the subject, for the chain's records, and what these need.
use Rattle.decision.proofs.ShowingLaws.{all_marked}
use Rattle.decision.proofs.showing.mark_all.Goals as goal

pub returns : goal.returns
returns c = all_marked _ _ _ _ _ _ _ _ _ _ c.requires.3 (c.mark_target.ensures _ (rw (c.lookup.ensures.0, c.lookup.ensures.1) c.args.good.now.held.index) c.requires.0.exact) (rw c.records-records.ensures.table at c.mark_access.ensures) (rw c.records-records.ensures.table at c.mark_chain.ensures) c.mark_needed.ensures
