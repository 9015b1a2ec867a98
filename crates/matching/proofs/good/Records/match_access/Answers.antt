-- `match_access` reads the record where it stands, and looks whether it is for the request.
use mathlib.Core.Path.{refl}
use native.Mathlib.Omega.{arith}
use Rattle.matching.proofs.MatchingLaws.{accesses_below, other_asked, access_leads_nowhere, access_gives}
use Rattle.matching.proofs.good.Records.match_access.Goals as goal
use Rattle.matching.proofs.good.Records.match_access.Goals.{then-ne-via-then-ne, then-ne-via-else-ne+then-ne-2}

pub returns-then-ne : goal.returns-then-ne
returns-then-ne c =
    elim c.then-ne.branch [
      | then-ne-via-then-ne w ↦ other_asked _ _ _ _ _ c.args.self.now.held _ (accesses_below _ _ _ _ _ c.args.self.now.held _ c.requires.1) _ c.access-access.ensures _ c.args.asked.owner c.args.asked.wanted (λ o a b. grind (arith, w.if-ne.ensures))
      | then-ne-via-else-ne+then-ne-2 w ↦ other_asked _ _ _ _ _ c.args.self.now.held _ (accesses_below _ _ _ _ _ c.args.self.now.held _ c.requires.1) _ c.access-access.ensures _ c.args.asked.owner c.args.asked.wanted (λ o a b. grind (arith, w.if-ne-2.ensures))
    ]

pub follow_name-requires : goal.follow_name-requires
follow_name-requires c = (c.requires.0, c.access-access.ensures.owner, c.access-access.ensures.path)

pub returns-in_err-to : goal.returns-in_err-to
returns-in_err-to c = rw c.from_residual.ensures (access_leads_nowhere _ _ _ _ _ c.args.self.now.held _ (accesses_below _ _ _ _ _ c.args.self.now.held _ c.requires.1) _ c.access-access.ensures _ _ _ _ (c.in_err-to.ensures _ c.args.self.now.held.index) refl)

pub returns : goal.returns
returns c = access_gives _ _ _ _ _ c.args.self.now.held _ (accesses_below _ _ _ _ _ c.args.self.now.held _ c.requires.1) _ c.access-access.ensures _ _ _ _ (c.in_ok-to.ensures _ c.args.self.now.held.index) _ refl (grind (arith, c.if-ne.ensures)) (grind (arith, c.if-ne-2.ensures)) (grind (arith, c.if-ne-2.ensures))
