-- `fill_entry` takes one more entry into the listing, or finds that it could not be filled, and keeps why.
use mathlib.Core.Path.{refl}
use native.Mathlib.Omega.{arith}
use Rattle.sheet.specs.Listings.{more, same}
use Rattle.sheet.proofs.WalksLaws.{grown_set}
use Rattle.sheet.proofs.FillingLaws.{room_left, one_more, entry_below}
use Rattle.sheet.proofs.WaitingLaws.{rests_not, rests_quiet, waiting_grown, stops_at, stops_ever, stops_fits, stops_turn, stops_waiting}
use Rattle.sheet.proofs.names.Names.fill_entry.Goals as goal

pub returns-then-rests-clause-turn : goal.returns-then-rests-clause-turn
returns-then-rests-clause-turn c = same refl (rests_quiet _ _ _ _ c.requires.1 _ c.rests.ensures c.if-rests.true)

pub bounds-order-listed : goal.bounds-order-listed
bounds-order-listed c = room_left _ _ _ _ c.requires.0 _ (entry_below _ _ _ _ _ c.args.self.now.known _ c.requires.2) _ c.open_binding.ensures c.args.self.now.known.index.good _ c.in-Key.is (rests_not _ _ _ _ c.rests.ensures c.if-rests.false)

pub returns-in-Key-clause-listing : goal.returns-in-Key-clause-listing
returns-in-Key-clause-listing c = one_more _ _ _ _ c.requires.0 _ (entry_below _ _ _ _ _ c.args.self.now.known _ c.requires.2) _ c.open_binding.ensures c.args.self.now.known.index.good _ c.in-Key.is (rests_not _ _ _ _ c.rests.ensures c.if-rests.false)

pub returns-in-Key-clause-turn : goal.returns-in-Key-clause-turn
returns-in-Key-clause-turn c = more

pub returns-in-Key-clause-waiting : goal.returns-in-Key-clause-waiting
returns-in-Key-clause-waiting c = waiting_grown _ _ _ _ (grown_set _ _ _ (rests_not _ _ _ _ c.rests.ensures c.if-rests.false)) c.requires.1

pub overflow_add-waits : goal.overflow_add-waits
overflow_add-waits c = omega (arith, stops_fits _ _ _ _ _ c.args.self.now.known _ _ _ (stops_at _ _ _ (entry_below _ _ _ _ _ c.args.self.now.known _ c.requires.2) _ c.open_binding.ensures _ c.in-Waits.is))

pub overflow_cast-waits : goal.overflow_cast-waits
overflow_cast-waits c = omega (arith, stops_fits _ _ _ _ _ c.args.self.now.known _ _ _ (stops_at _ _ _ (entry_below _ _ _ _ _ c.args.self.now.known _ c.requires.2) _ c.open_binding.ensures _ c.in-Waits.is))

pub returns-in-Waits-clause-turn : goal.returns-in-Waits-clause-turn
returns-in-Waits-clause-turn c = stops_turn _ _ _ (entry_below _ _ _ _ _ c.args.self.now.known _ c.requires.2) _ (stops_at _ _ _ (entry_below _ _ _ _ _ c.args.self.now.known _ c.requires.2) _ c.open_binding.ensures _ c.in-Waits.is) _

pub returns-in-Waits-clause-waiting : goal.returns-in-Waits-clause-waiting
returns-in-Waits-clause-waiting c = stops_waiting _ _ _ (entry_below _ _ _ _ _ c.args.self.now.known _ c.requires.2) _ (stops_at _ _ _ (entry_below _ _ _ _ _ c.args.self.now.known _ c.requires.2) _ c.open_binding.ensures _ c.in-Waits.is) _ c.requires.1

pub returns-in-Nothing-clause-turn : goal.returns-in-Nothing-clause-turn
returns-in-Nothing-clause-turn c = stops_turn _ _ _ (entry_below _ _ _ _ _ c.args.self.now.known _ c.requires.2) _ (stops_ever _ _ _ (entry_below _ _ _ _ _ c.args.self.now.known _ c.requires.2) _ c.open_binding.ensures c.in-Nothing.is (rests_not _ _ _ _ c.rests.ensures c.if-rests.false)) _

pub returns-in-Nothing-clause-waiting : goal.returns-in-Nothing-clause-waiting
returns-in-Nothing-clause-waiting c = stops_waiting _ _ _ (entry_below _ _ _ _ _ c.args.self.now.known _ c.requires.2) _ (stops_ever _ _ _ (entry_below _ _ _ _ _ c.args.self.now.known _ c.requires.2) _ c.open_binding.ensures c.in-Nothing.is (rests_not _ _ _ _ c.rests.ensures c.if-rests.false)) _ c.requires.1
