-- `is_asked` holds the owner, the object and the right against those that are asked.
use mathlib.Core.Path.{refl}
use Rattle.keytable.specs.Keeping.{is_asked}
use Rattle.keytable.proofs.matching.is_asked.Goals as goal

pub returns-then-eq : goal.returns-then-eq
unfolding is_asked
returns-then-eq c = rw (c.eq-then-eq.ensures, ← c.if-eq.ensures) refl

pub returns-else-eq : goal.returns-else-eq
unfolding is_asked
returns-else-eq c = rw (c.eq.ensures, ← c.if-eq.ensures) refl
