-- The request's owner is a space of the table, and its subject fits the table.
use mathlib.Core.Path.{ap}
use native.Mathlib.Omega.{arith}
use lib.ListN.{length}
use Rattle.sheet.proofs.FindsLaws.{name-requires}
use Rattle.matching.proofs.AskedLaws.{asks}
use Rattle.review.proofs.explaining.explain_request.Goals as goal

pub say_space-requires : goal.say_space-requires
say_space-requires g c = (asks _ _ _ _ _ c.args.opened.now.good.held _ (record { small = λ i. (c.type_inv.request i).fits }) _ c.in-Some.ensures).owner

pub say_way-requires : goal.say_way-requires
say_way-requires g c =
    let fits = name-requires _ _ _ _ c.in-Name.is (asks _ _ _ _ _ c.args.opened.now.good.held _ (record { small = λ i. (c.type_inv.request i).fits }) _ c.in-Some.ensures).subject in
    (omega (arith, fits.0, ap length c.lookup.ensures.0), fits.1)
