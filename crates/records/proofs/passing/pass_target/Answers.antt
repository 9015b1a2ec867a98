-- `pass_target`: the form, and then a key or a name.
use native.Mathlib.Omega.{arith}
use Rattle.std.proofs.lemmas.Option.{IfSome_then}
use Rattle.records.proofs.PassingLaws.{field_seen, target_key_lem, target_name}
use Rattle.records.proofs.passing.pass_target.Goals as goal

pub returns-then-form-eq0 : goal.returns-then-form-eq0
returns-then-form-eq0 c = IfSome_then c.pass_key.result c.pass_key.ensures (λ next p. target_key_lem _ _ _ _ _ _ (field_seen _ _ _ _ _ _ c.in_ok-form.ensures _ _ (omega arith) (omega arith)) c.if-form-eq0.true p)

pub returns : goal.returns
returns c = IfSome_then c.pass_name.result c.pass_name.ensures (λ next p. target_name _ _ _ _ _ _ (field_seen _ _ _ _ _ _ c.in_ok-form.ensures _ _ (omega arith) (omega arith)) c.if-form-eq0.false p)
