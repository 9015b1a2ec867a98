-- `mark` marks the binding that the first name opens, and goes on from the key that it gives with one name fewer.
use Rattle.sheet.proofs.FindsLaws.{binding_below}
use Rattle.marking.proofs.ThroughLaws.{no_binding, stops_there, goes_on}
use Rattle.marking.proofs.through.+mark.Goals as goal

pub returns-in_default-find_binding : goal.returns-in_default-find_binding
returns-in_default-find_binding t c = λ n index. no_binding _ _ _ _ index _ _ c.requires.2 _ c.if-path-eq0.false _ c.find_space.ensures _ c.in-Some.is _ c.find_binding.ensures.found c.in_default-find_binding.is

pub returns-then-key-eq0 : goal.returns-then-key-eq0
returns-then-key-eq0 t c = λ n index. stops_there _ _ _ _ index _ _ c.requires.2 _ c.if-path-eq0.false _ c.find_space.ensures _ c.in-Some.is _ c.find_binding.ensures.found _ c.in-Some-find_binding.is (binding_below _ _ _ _ c.requires.1 c.find_binding.ensures.there c.in-Some-find_binding.is) c.if-key-eq0.true

pub returns : goal.returns
returns t c = λ n index. goes_on _ _ _ _ index _ _ c.requires.2 _ c.if-path-eq0.false _ c.find_space.ensures _ c.in-Some.is _ c.find_binding.ensures.found _ c.in-Some-find_binding.is (binding_below _ _ _ _ c.requires.1 c.find_binding.ensures.there c.in-Some-find_binding.is) c.if-key-eq0.false _ c.rest_of.ensures _ (c.mark.ensures n index)
