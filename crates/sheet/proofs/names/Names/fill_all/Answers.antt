-- `fill_all` goes on until a round lists no more, or all are listed.
use mathlib.Core.Path.{refl}
use Rattle.sheet.proofs.FillingLaws.{cleared_listing, quiet_ends, full_ends}
use Rattle.sheet.proofs.WaitingLaws.{cleared_waiting}
use Rattle.sheet.proofs.names.Names.fill_all.Goals as goal

pub loop-listed-init : goal.loop-listed-init
loop-listed-init c = (cleared_listing _ _ _ _ _ c.args.self.now.known _ c.args.sheet.now _ (c.fill.ensures.after (λ y e. e)) c.requires.0 c.requires.1, cleared_waiting _ _ _ _ _ c.args.self.now.known _ _ c.args.waits.now (c.fill-2.ensures.after (λ y e. e)) c.requires.2, refl, refl, refl)

pub returns-then-now-listed : goal.returns-then-now-listed
returns-then-now-listed c = quiet_ends _ _ _ _ _ c.args.self.now.known _ _ _ _ c.round-now.ensures.round c.if-now-listed.true

pub returns : goal.returns
returns c = full_ends _ _ _ _ _ c.args.self.now.known _ _ _ c.loop-listed.invariant.0 c.loop-listed-test.false
