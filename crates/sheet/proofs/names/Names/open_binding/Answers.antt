-- `open_binding` reads the binding where it stands and follows its target.
use Rattle.sheet.proofs.MeaningLaws.{no_fault, target_fitting, leads_so}
use Rattle.sheet.proofs.names.Names.open_binding.Goals as goal

pub walk_target-requires : goal.walk_target-requires
walk_target-requires c = rw (c.lookup.ensures.0, c.lookup.ensures.1) (c.requires.0, target_fitting _ _ _ _ _ c.args.self.now.known _ c.requires.1 _ c.read_binding.ensures _ _ c.in-Ok.is)

pub returns-in-Ok : goal.returns-in-Ok
returns-in-Ok c = leads_so _ _ _ _ _ c.args.self.now.known _ c.requires.1 _ c.read_binding.ensures _ _ c.in-Ok.is _ _ (c.walk_target.ensures _ (rw (c.lookup.ensures.0, c.lookup.ensures.1) c.args.self.now.known.index))

pub returns-in-Err : goal.returns-in-Err
returns-in-Err c = absurd (no_fault _ _ _ _ _ c.args.self.now.known _ c.requires.1 _ c.read_binding.ensures _ c.in-Err.is)
