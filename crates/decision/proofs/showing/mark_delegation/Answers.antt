-- `mark_delegation` marks what the paths of the record go through.
use native.Mathlib.Omega.{arith}
use Rattle.decision.proofs.ShowingLaws.{delegation_marked}
use Rattle.decision.proofs.showing.mark_delegation.Goals as goal

pub delegation-delegation-requires : goal.delegation-delegation-requires
delegation-delegation-requires c = omega (arith, c.args.records.now.held.delegation_count, c.requires.3)

pub mark_name-requires : goal.mark_name-requires
mark_name-requires c = (c.requires.1, c.requires.2, c.delegation-delegation.ensures.writer, c.delegation-delegation.ensures.owner)

pub mark_name-requires-2 : goal.mark_name-requires-2
mark_name-requires-2 c = (c.requires.1, omega (arith, c.mark_name.auto.marks, c.requires.2), c.delegation-delegation.ensures.writer, c.delegation-delegation.ensures.delegatee)

pub returns : goal.returns
returns c = delegation_marked _ c.args.records.now.held.good _ _ _ c.delegation-delegation.ensures.at c.delegation-delegation.ensures.is (c.mark_name.ensures _ c.args.records.now.held.index c.requires.0) (c.mark_name-2.ensures _ c.args.records.now.held.index c.requires.0)
