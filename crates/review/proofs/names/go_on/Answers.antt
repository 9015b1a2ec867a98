-- The space that is found is there.
use mathlib.Core.Path.{refl}
use Rattle.sheet.proofs.FindsLaws.{space_below}
use Rattle.review.proofs.names.go_on.Goals as goal

pub find_binding-requires : goal.find_binding-requires
find_binding-requires g c = (space_below c.args.meanings.now.lookup.keys.now _ _ _ _ c.args.meanings.now.lookup.few c.in-Some.ensures refl, c.requires)
