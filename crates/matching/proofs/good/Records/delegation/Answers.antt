-- `delegation` reads the record where it stands: that of a good table is read.
use mathlib.Core.Path.{refl}
use Rattle.matching.proofs.MatchingLaws.{delegations_below, delegation_read, delegation_is}
use Rattle.matching.proofs.good.Records.delegation.Goals as goal

pub unwrap-requires : goal.unwrap-requires
unwrap-requires c = let a = delegation_read _ _ _ _ _ c.args.self.now.held _ (delegations_below _ _ _ _ _ c.args.self.now.held _ c.requires) c.read_delegation.ensures in rw a.1 refl

pub returns : goal.returns
returns c = delegation_is _ _ _ _ _ c.args.self.now.held _ (delegations_below _ _ _ _ _ c.args.self.now.held _ c.requires) c.read_delegation.ensures _ c.unwrap.ensures
