-- `walk_one` takes the delegation that was found, if it is by the holder and a step is left.
use mathlib.Core.Path.{refl, sym, ◌∙◌}
use Rattle.checker.proofs.WalkingLaws.{hands_nothing, another_wrote, no_depth_left, steps_on}
use Rattle.checker.proofs.walking.walk_one.Goals as goal
use Rattle.checker.proofs.walking.walk_one.Goals.{then-records-handed-via-then-records-handed, then-records-handed-via-else-records-handed+then-number-eq0}

pub returns-in_err-handed : goal.returns-in_err-handed
returns-in_err-handed c = rw c.from_residual.ensures (hands_nothing _ _ _ _ _ c.args.records.now.held _ _ _ _ c.in_err-handed.ensures _ _ refl)

pub returns-then-records-handed : goal.returns-then-records-handed
returns-then-records-handed c =
    elim c.then-records-handed.branch [
      | then-records-handed-via-then-records-handed w ↦ another_wrote _ _ _ _ _ c.args.records.now.held _ _ _ _ c.in_ok-handed.ensures _ _ _ refl w.if-records-handed.true
      | then-records-handed-via-else-records-handed+then-number-eq0 w ↦ no_depth_left _ _ _ _ _ c.args.records.now.held _ _ _ _ c.in_ok-handed.ensures _ _ _ refl (sym w.number.ensures ∙ w.if-number-eq0.true)
    ]

pub returns : goal.returns
returns c = steps_on _ _ _ _ _ c.args.records.now.held _ _ _ _ c.in_ok-handed.ensures _ _ _ refl c.if-records-handed.false _ c.step.ensures
