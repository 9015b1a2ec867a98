-- `walk` finds where the name leads: at its end the key of its space, and else by its first name, from which it goes on with one name fewer.
use mathlib.Core.Path.{ap}
use native.Mathlib.Nat.{le_refl}
use native.Mathlib.Omega.{arith}
use Rattle.records.specs.declared.paths.Path.{Path}
use Rattle.sheet.proofs.FindsLaws.{rest_fits, space_below}
use Rattle.sheet.proofs.WalksLaws.{at_its_end, not_bound, still_empty, last_name, nobody_has, goes_on}
use Rattle.sheet.proofs.names.Lookup.+walk.Goals as goal

pub returns-then-path-eq0 : goal.returns-then-path-eq0
returns-then-path-eq0 t c = λ n index. at_its_end _ _ _ _ index _ _ c.requires.2 c.requires.1 c.if-path-eq0.true

pub returns-then-key-eq0 : goal.returns-then-key-eq0
returns-then-key-eq0 t c = λ n index. still_empty _ _ _ _ index _ _ c.requires.2 c.if-path-eq0.false _ c.find_binding.ensures.found _ c.in-Some.is c.if-key-eq0.true

pub returns-then-path-eq1 : goal.returns-then-path-eq1
returns-then-path-eq1 t c = λ n index. last_name _ _ _ _ index _ _ c.requires.2 c.if-path-eq0.false _ c.find_binding.ensures.found _ c.in-Some.is c.if-key-eq0.false c.requires.1 c.if-path-eq1.true

pub walk-requires : goal.walk-requires
walk-requires t c = (let e = ap (λ (q : Path). q.length) c.rest_of.ensures in omega (arith, e, c.decreases, c.if-path-eq0.false), (c.requires.0, space_below c.args.self.now.keys.now _ _ _ _ (le_refl _) c.find_space.ensures c.in-Some-find_space.is, rest_fits _ _ c.rest_of.ensures c.requires.2))

pub returns-in_default : goal.returns-in_default
returns-in_default t c = λ n index. not_bound _ _ _ _ index _ _ c.requires.2 c.if-path-eq0.false _ c.find_binding.ensures.found c.in_default.is

pub returns-in-None : goal.returns-in-None
returns-in-None t c = λ n index. nobody_has _ _ _ _ index _ _ c.requires.2 c.if-path-eq0.false _ c.find_binding.ensures.found _ c.in-Some.is c.if-key-eq0.false c.requires.1 _ c.find_space.ensures c.if-path-eq1.false c.in-None.is

pub returns-in-Some-find_space : goal.returns-in-Some-find_space
returns-in-Some-find_space t c = λ n index. goes_on _ _ _ _ index _ _ c.requires.2 c.if-path-eq0.false _ c.find_binding.ensures.found _ c.in-Some.is c.if-key-eq0.false c.requires.1 _ c.find_space.ensures _ c.in-Some-find_space.is _ c.rest_of.ensures _ (c.walk.ensures n index)
