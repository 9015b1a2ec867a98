-- `mark_for` reads the binding where it stands, if it is marked, and marks what its target goes through.
use Rattle.sheet.proofs.MeaningLaws.{no_fault, target_fitting, target_read_lem}
use Rattle.sheet.proofs.FillingLaws.{entry_below}
use Rattle.marking.proofs.NeededLaws.{wants_these}
use Rattle.marking.proofs.needed.mark_for.Goals as goal

pub returns-in_default : goal.returns-in_default
returns-in_default c = absurd (no_fault _ _ _ _ _ c.args.names.now.known _ c.requires.3 _ c.read_binding.ensures _ c.in_default.is)

pub mark_target-requires : goal.mark_target-requires
mark_target-requires c = rw (c.lookup.ensures.0, c.lookup.ensures.1) (c.requires.1, c.requires.2, target_fitting _ _ _ _ _ c.args.names.now.known _ c.requires.3 _ c.read_binding.ensures _ _ c.in-Ok.is)

pub returns : goal.returns
returns c = wants_these _ _ _ _ c.is_marked.ensures c.if-not-is_marked.false (entry_below _ _ _ _ _ c.args.names.now.known _ c.requires.3) _ (target_read_lem _ _ _ _ _ c.args.names.now.known _ c.requires.3 _ c.read_binding.ensures _ _ c.in-Ok.is) _ (c.mark_target.ensures _ (rw (c.lookup.ensures.0, c.lookup.ensures.1) c.args.names.now.known.index) c.requires.0)
