-- `glance`: what it tells is within the bounds.
use native.Mathlib.Omega.{arith}
use Rattle.std.proofs.Common.{rules}
use Rattle.std.proofs.lemmas.Option.{IfSome_then}
use Rattle.records.proofs.PassingLaws.{field_seen}
use Rattle.records.proofs.fields.Bounds.glance.Goals as goal

pub returns : goal.returns
returns c = IfSome_then c.glance_at.result c.glance_at.ensures (λ seen g. field_seen _ _ _ _ _ _ g c.args.self.low c.args.self.high (search rules) (omega (arith, c.args.self.glanced)))
