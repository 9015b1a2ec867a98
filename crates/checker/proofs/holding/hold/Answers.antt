-- `hold` enters the listed bindings, and finds the subject's key and the chain's by them.
use mathlib.Core.Path.{refl}
use native.Mathlib.Omega.{arith}
use Rattle.checker.proofs.HoldingLaws.{not_entered, not_named, chain_broken, not_the_subject, holds_so}
use Rattle.checker.proofs.holding.hold.Goals as goal

pub returns-then-not-enter_listed : goal.returns-then-not-enter_listed
returns-then-not-enter_listed c = not_entered _ c.args.good.now.held.good.names _ _ _ (record { small = λ i. (c.type_inv.derivation i).fits }) _ _ _ c.enter_listed.ensures c.if-not-enter_listed.true

pub returns-in_err-key : goal.returns-in_err-key
returns-in_err-key c = rw c.from_residual.ensures (not_named _ c.args.good.now.held.good.names _ _ _ (record { small = λ i. (c.type_inv.derivation i).fits }) _ _ _ c.enter_listed.ensures c.if-not-enter_listed.false _ (c.in_err-key.ensures _ c.args.good.now.held.index) refl)

pub returns-in_err-last : goal.returns-in_err-last
returns-in_err-last c = rw c.from_residual-in_err-last.ensures (chain_broken _ c.args.good.now.held.good.names _ _ _ (record { small = λ i. (c.type_inv.derivation i).fits }) _ _ _ c.enter_listed.ensures c.if-not-enter_listed.false _ (c.in_ok-key.ensures _ c.args.good.now.held.index) _ refl _ (rw c.records.ensures.table at c.in_err-last.ensures) refl)

pub returns-then-ne : goal.returns-then-ne
returns-then-ne c = not_the_subject _ c.args.good.now.held.good.names _ _ _ (record { small = λ i. (c.type_inv.derivation i).fits }) _ _ _ c.enter_listed.ensures c.if-not-enter_listed.false _ (c.in_ok-key.ensures _ c.args.good.now.held.index) _ refl _ (rw c.records.ensures.table at c.in_ok-last.ensures) _ refl (λ h. grind (arith, c.if-ne.ensures))

pub returns : goal.returns
returns c = holds_so _ c.args.good.now.held.good.names _ _ _ (record { small = λ i. (c.type_inv.derivation i).fits }) _ _ _ c.enter_listed.ensures c.if-not-enter_listed.false _ (c.in_ok-key.ensures _ c.args.good.now.held.index) _ refl _ (rw c.records.ensures.table at c.in_ok-last.ensures) _ refl (grind (arith, c.if-ne.ensures))
