-- `after_record` passes over the record where it can, and reads it otherwise.
use native.Mathlib.Omega.{arith}
use Rattle.table.proofs.AnswersLaws.{after_got, after_bad}
use Rattle.table.proofs.PlacingLaws.{goes_after, stops_after}
use Rattle.table.proofs.loading.after_record.Goals as goal

pub overflow_add-result : goal.overflow_add-result
overflow_add-result g c = omega (arith, (goes_after (g.R.Listed.reader _) (g.met.R.Listed.walks _) c.args.table.now _ c.requires.0 _ _ c.in-Some.ensures.1).1, c.requires.1)

pub returns-in-Some : goal.returns-in-Some
returns-in-Some g c = (goes_after (g.R.Listed.reader _) (g.met.R.Listed.walks _) c.args.table.now _ c.requires.0 _ _ c.in-Some.ensures.1).0

pub overflow_add-result-in-Ok : goal.overflow_add-result-in-Ok
overflow_add-result-in-Ok g c = omega (arith, (goes_after (g.R.Listed.reader _) (g.met.R.Listed.walks _) c.args.table.now _ c.requires.0 _ _ (after_got _ c.in-Ok.ensures).1).1, c.requires.1)

pub moved-requires : goal.moved-requires
moved-requires g c = omega (arith, (stops_after (g.R.Listed.reader _) (g.met.R.Listed.walks _) c.args.table.now _ c.requires.0 _ (after_bad _ c.in-Err.ensures)).1, c.requires.1)

pub returns-in-Ok : goal.returns-in-Ok
returns-in-Ok g c = (goes_after (g.R.Listed.reader _) (g.met.R.Listed.walks _) c.args.table.now _ c.requires.0 _ _ (after_got _ c.in-Ok.ensures).1).0

pub returns-in-Err : goal.returns-in-Err
returns-in-Err g c = rw c.moved.ensures (stops_after (g.R.Listed.reader _) (g.met.R.Listed.walks _) c.args.table.now _ c.requires.0 _ (after_bad _ c.in-Err.ensures)).0
