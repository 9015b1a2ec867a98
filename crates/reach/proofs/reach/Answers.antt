-- `reach` goes through rounds until one changes nothing; each other round leaves less to rise.
use mathlib.Core.Path.{refl, ◌∙◌}
use Rattle.reach.proofs.RoundsLaws.{rounds_start, rounds_edges, rounds_on, rounds_less, rounds_end}
use Rattle.reach.proofs.reach.Goals as goal

pub loop-rose-init : goal.loop-rose-init
loop-rose-init c = (rounds_start _ _ _ _ _ c.requires.1, refl)

pub round-rose-requires : goal.round-rose-requires
round-rose-requires c = (rounds_edges _ _ _ _ _ _ _ c.requires.0 c.loop-rose.invariant.0, c.loop-rose.invariant.0.risen.lent)

pub loop-rose-smaller : goal.loop-rose-smaller
loop-rose-smaller c = rounds_less _ _ _ _ _ _ _ _ _ _ c.loop-rose.invariant.0 c.round-rose.ensures c.loop-rose-test.true

pub loop-rose-preserved : goal.loop-rose-preserved
loop-rose-preserved c = (rounds_on _ _ _ _ _ _ _ _ _ _ c.loop-rose.invariant.0 c.round-rose.ensures, c.round-rose.ensures.links ∙ c.loop-rose.invariant.1)

pub returns : goal.returns
returns c = rounds_end _ _ _ _ _ _ _ c.loop-rose.invariant.0 c.loop-rose-test.false
