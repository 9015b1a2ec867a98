-- `mark_access` marks what the path of the record goes through.
use native.Mathlib.Omega.{arith}
use Rattle.decision.proofs.ShowingLaws.{access_marked}
use Rattle.decision.proofs.showing.mark_access.Goals as goal

pub access-access-requires : goal.access-access-requires
access-access-requires c = omega (arith, c.args.records.now.held.access_count, c.requires.3)

pub mark_name-requires : goal.mark_name-requires
mark_name-requires c = (c.requires.1, c.requires.2, c.access-access.ensures.owner, c.access-access.ensures.path)

pub returns : goal.returns
returns c = access_marked _ c.args.records.now.held.good _ _ _ c.access-access.ensures.at c.access-access.ensures.is (c.mark_name.ensures _ c.args.records.now.held.index c.requires.0)
