-- `access` reads the record where it stands: that of a good table is read.
use mathlib.Core.Path.{refl}
use Rattle.matching.proofs.MatchingLaws.{accesses_below, access_read, access_is}
use Rattle.matching.proofs.good.Records.access.Goals as goal

pub unwrap-requires : goal.unwrap-requires
unwrap-requires c = let a = access_read _ _ _ _ _ c.args.self.now.held _ (accesses_below _ _ _ _ _ c.args.self.now.held _ c.requires) c.read_access.ensures in rw a.1 refl

pub returns : goal.returns
returns c = access_is _ _ _ _ _ c.args.self.now.held _ (accesses_below _ _ _ _ _ c.args.self.now.held _ c.requires) c.read_access.ensures _ c.unwrap.ensures
