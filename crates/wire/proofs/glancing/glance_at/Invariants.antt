-- `glance_at` gathers groups as `read` does; the bounds were looked at before.
use Rattle.wire.proofs.GlancingLaws.{Glancing}
use Rattle.wire.proofs.glancing.glance_at.Given as goal

abbrev pub invariant-loop-i : goal.invariant-loop-i
invariant-loop-i l = Glancing l.s l.at l.low l.more l.value l.unit l.least l.i
