-- `match_delegation` reads the record where it stands, and looks whether it is for the request.
use mathlib.Core.Path.{refl}
use native.Mathlib.Omega.{arith}
use Rattle.matching.proofs.MatchingLaws.{delegations_below, for_other, owner_nowhere, owner_other, delegatee_nowhere, delegation_hands}
use Rattle.matching.proofs.good.Records.match_delegation.Goals as goal

pub returns-then-ne : goal.returns-then-ne
returns-then-ne c = for_other _ _ _ _ _ c.args.self.now.held _ (delegations_below _ _ _ _ _ c.args.self.now.held _ c.requires.2) _ c.delegation-delegation.ensures _ c.args.asked.owner c.args.asked.wanted (λ a b. grind (arith, c.if-ne.ensures))

pub follow_name-requires : goal.follow_name-requires
follow_name-requires c = (c.requires.0, c.delegation-delegation.ensures.writer, c.delegation-delegation.ensures.owner)

pub returns-in_err-owner : goal.returns-in_err-owner
returns-in_err-owner c = rw c.from_residual.ensures (owner_nowhere _ _ _ _ _ c.args.self.now.held _ (delegations_below _ _ _ _ _ c.args.self.now.held _ c.requires.2) _ c.delegation-delegation.ensures _ _ _ _ (c.in_err-owner.ensures _ c.args.self.now.held.index) refl)

pub returns-then-owner-self : goal.returns-then-owner-self
returns-then-owner-self c = owner_other _ _ _ _ _ c.args.self.now.held _ (delegations_below _ _ _ _ _ c.args.self.now.held _ c.requires.2) _ c.delegation-delegation.ensures _ _ _ _ (c.in_ok-owner.ensures _ c.args.self.now.held.index) _ refl c.requires.1 c.if-owner-self.true

pub follow_name-requires-2 : goal.follow_name-requires-2
follow_name-requires-2 c = (c.requires.0, c.delegation-delegation.ensures.writer, c.delegation-delegation.ensures.delegatee)

pub returns-in_err-to : goal.returns-in_err-to
returns-in_err-to c = rw c.from_residual-in_err-to.ensures (delegatee_nowhere _ _ _ _ _ c.args.self.now.held _ (delegations_below _ _ _ _ _ c.args.self.now.held _ c.requires.2) _ c.delegation-delegation.ensures _ _ _ _ (c.in_ok-owner.ensures _ c.args.self.now.held.index) _ refl c.requires.1 _ (c.in_err-to.ensures _ c.args.self.now.held.index) refl)

pub returns : goal.returns
returns c = delegation_hands _ _ _ _ _ c.args.self.now.held _ (delegations_below _ _ _ _ _ c.args.self.now.held _ c.requires.2) _ c.delegation-delegation.ensures _ _ _ _ (c.in_ok-owner.ensures _ c.args.self.now.held.index) _ refl c.requires.1 _ (c.in_ok-to.ensures _ c.args.self.now.held.index) _ refl c.if-owner-self.false (grind (arith, c.if-ne.ensures)) (grind (arith, c.if-ne.ensures))
