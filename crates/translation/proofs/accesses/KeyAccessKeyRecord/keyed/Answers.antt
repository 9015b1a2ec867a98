-- `keyed` follows the record's name by the sheet, and takes the owner's key by its number.
use native.Mathlib.Omega.{arith}
use Rattle.translation.proofs.BecomingLaws.{access_omitted, access_becomes}
use Rattle.translation.proofs.accesses.KeyAccessKeyRecord.keyed.Goals as goal

pub access-access-requires : goal.access-access-requires
access-access-requires c = omega (arith, c.requires.1, c.args.records.now.held.access_count)

pub follow_name-requires : goal.follow_name-requires
follow_name-requires c = (c.requires.0.room, c.access-access.ensures.owner, c.access-access.ensures.path)

pub returns-in_default : goal.returns-in_default
returns-in_default c = access_omitted _ _ c.requires.0 _ _ c.access-access.ensures _ (c.follow_name.ensures _ c.args.records.now.held.index) c.in_default.is

pub returns : goal.returns
returns c = access_becomes _ _ c.requires.0 _ _ c.access-access.ensures _ (c.follow_name.ensures _ c.args.records.now.held.index) _ c.in-Some.is
