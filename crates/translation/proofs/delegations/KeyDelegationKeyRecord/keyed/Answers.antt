-- `keyed` follows both names of the delegation by the sheet, and takes the writer's key by its number.
use mathlib.Core.Path.{refl}
use native.Mathlib.Omega.{arith}
use Rattle.translation.proofs.BecomingLaws.{owner_omitted, delegatee_omitted, delegation_becomes}
use Rattle.translation.proofs.delegations.KeyDelegationKeyRecord.keyed.Goals as goal

pub delegation-delegation-requires : goal.delegation-delegation-requires
delegation-delegation-requires c = omega (arith, c.requires.1, c.args.records.now.held.delegation_count)

pub follow_name-requires : goal.follow_name-requires
follow_name-requires c = (c.requires.0.room, c.delegation-delegation.ensures.writer, c.delegation-delegation.ensures.owner)

pub returns-in_err-owner : goal.returns-in_err-owner
returns-in_err-owner c = rw c.from_residual.ensures (owner_omitted _ _ c.requires.0 _ _ c.delegation-delegation.ensures _ (c.in_err-owner.ensures _ c.args.records.now.held.index) refl)

pub follow_name-requires-2 : goal.follow_name-requires-2
follow_name-requires-2 c = (c.requires.0.room, c.delegation-delegation.ensures.writer, c.delegation-delegation.ensures.delegatee)

pub returns-in_err-delegatee : goal.returns-in_err-delegatee
returns-in_err-delegatee c = rw c.from_residual-in_err-delegatee.ensures (delegatee_omitted _ _ c.requires.0 _ _ c.delegation-delegation.ensures _ (c.in_ok-owner.ensures _ c.args.records.now.held.index) _ (c.in_err-delegatee.ensures _ c.args.records.now.held.index) refl)

pub returns : goal.returns
returns c = delegation_becomes _ _ c.requires.0 _ _ c.delegation-delegation.ensures _ (c.in_ok-owner.ensures _ c.args.records.now.held.index) _ (c.in_ok-delegatee.ensures _ c.args.records.now.held.index) _ _ refl refl
