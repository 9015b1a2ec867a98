-- `first_code` reaches as far as the edges lead, and tells the code of node 0.
use native.Mathlib.Omega.{arith}
use Rattle.keytable.proofs.SettlingLaws.{settled}
use Rattle.keytable.proofs.deciding.first_code.Goals as goal

pub reach-requires : goal.reach-requires
reach-requires c = (c.requires.0, record { codes = c.requires.1; room = omega (arith, c.requires.2) })

pub returns : goal.returns
returns c = record { most = c.reach.ensures.risen.lent.codes 0; verdict = λ K r m. settled K r _ _ _ _ _ _ m c.reach.ensures }
