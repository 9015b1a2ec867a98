-- The record is held against what is asked.
use Rattle.keytable.specs.Keeping.{is_asked}
use Rattle.keytable.proofs.accesses.KeyAccessKeyRecord.pass.Goals as goal

pub returns : goal.returns
unfolding is_asked
returns c = c.pass_key_access.ensures
