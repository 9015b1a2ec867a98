-- `walk` takes the access record, and goes on from the one whom it is to.
use mathlib.Core.Path.{refl}
use Rattle.records.proofs.ParsedLaws.{same_ok_got, same_ok_bad}
use Rattle.matching.proofs.MatchingLaws.{accesses_past}
use Rattle.checker.proofs.WalkingLaws.{no_first, not_listed, gives_nobody, walks_from}
use Rattle.checker.proofs.walking.walk.Goals as goal

pub returns-in_err-value : goal.returns-in_err-value
returns-in_err-value c =
    let e = same_ok_bad _ c.read_field.ensures c.in_err-value.ensures.value in
    rw c.from_residual.ensures (no_first _ c.args.records.now.held.good.names _ _ _ _ _ _ e.1)

pub returns-then-which-records : goal.returns-then-which-records
returns-then-which-records c =
    not_listed _ c.args.records.now.held.good.names _ _ _ _ _ _ _ (same_ok_got _ c.read_field.ensures c.in_ok-value.ensures.value) (accesses_past _ _ _ _ _ c.args.records.now.held _ c.if-which-records.true)

pub returns-in_err-first : goal.returns-in_err-first
returns-in_err-first c =
    rw c.from_residual-in_err-first.ensures (gives_nobody _ c.args.records.now.held.good.names _ _ _ _ _ _ _ (same_ok_got _ c.read_field.ensures c.in_ok-value.ensures.value) _ c.in_err-first.ensures refl)

pub returns : goal.returns
returns c = walks_from _ c.args.records.now.held.good.names _ _ _ _ _ _ _ (same_ok_got _ c.read_field.ensures c.in_ok-value.ensures.value) _ c.in_ok-first.ensures _ refl _ c.walk_on.ensures
