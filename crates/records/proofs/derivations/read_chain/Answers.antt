-- `read_chain` goes on as `many chain_number` does.
use Rattle.records.proofs.ParsedLaws.{same_ok_got, same_ok_bad}
use Rattle.records.proofs.DerivationBytesLaws.{chaining_start, chaining_fails, chaining_on, chaining_end}
use Rattle.records.proofs.derivations.read_chain.Goals as goal

pub loop-init : goal.loop-init
loop-init c = chaining_start _ _ _

pub returns-in_err-next : goal.returns-in_err-next
returns-in_err-next c = rw c.from_residual.ensures (let e = same_ok_bad _ c.read_field.ensures c.in_err-next.ensures.value in chaining_fails _ _ _ _ _ c.loop.invariant c.loop-test.true _ e.1)

pub loop-preserved : goal.loop-preserved
loop-preserved c = chaining_on _ _ _ _ _ c.loop.invariant c.loop-test.true _ _ (same_ok_got _ c.read_field.ensures c.in_ok-next.ensures.value)

pub returns : goal.returns
returns c = chaining_end _ _ _ _ _ c.loop.invariant c.loop-test.false
