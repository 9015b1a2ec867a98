-- `walk_on` takes one step for each delegation of the chain.
use mathlib.Core.Path.{refl}
use Rattle.records.proofs.ParsedLaws.{same_ok_got, same_ok_bad}
use Rattle.matching.proofs.MatchingLaws.{delegations_past}
use Rattle.checker.proofs.WalkingLaws.{no_next, not_written, stops_here, walks_on, walk_ends}
use Rattle.checker.proofs.walking.walk_on.Goals as goal

pub returns-in_err-value : goal.returns-in_err-value
returns-in_err-value c =
    let e = same_ok_bad _ c.read_field.ensures c.in_err-value.ensures.value in
    rw c.from_residual.ensures (no_next _ c.args.records.now.held.good.names _ _ _ _ _ _ _ _ _ _ _ c.loop.invariant c.loop-test.true _ e.1)

pub returns-then-which-records : goal.returns-then-which-records
returns-then-which-records c =
    not_written _ c.args.records.now.held.good.names _ _ _ _ _ _ _ _ _ _ _ c.loop.invariant c.loop-test.true _ _ (same_ok_got _ c.read_field.ensures c.in_ok-value.ensures.value)
    (delegations_past _ _ _ _ _ c.args.records.now.held _ c.if-which-records.true)

pub returns-in_err-holder : goal.returns-in_err-holder
returns-in_err-holder c =
    rw c.from_residual-in_err-holder.ensures
    (stops_here _ c.args.records.now.held.good.names _ _ _ _ _ _ _ _ _ _ _ c.loop.invariant c.loop-test.true _ _ (same_ok_got _ c.read_field.ensures c.in_ok-value.ensures.value) _ c.in_err-holder.ensures refl)

pub loop-preserved : goal.loop-preserved
loop-preserved c =
    walks_on _ c.args.records.now.held.good.names _ _ _ _ _ _ _ _ _ _ _ c.loop.invariant c.loop-test.true _ _ (same_ok_got _ c.read_field.ensures c.in_ok-value.ensures.value) _ c.in_ok-holder.ensures _ refl

pub returns : goal.returns
returns c = walk_ends _ c.args.records.now.held.good.names _ _ _ _ _ _ _ _ _ _ _ c.loop.invariant _ refl refl c.loop-test.false
