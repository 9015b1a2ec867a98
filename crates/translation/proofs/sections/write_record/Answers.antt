-- `write_record` writes what a record becomes into the rest of the buffer, and counts it.
use native.Mathlib.Omega.{arith}
use Rattle.translation.proofs.TurnsLaws.{leaves_all, has_room, ends_within, puts_one}
use Rattle.translation.proofs.sections.write_record.Goals as goal

pub returns-in_default : goal.returns-in_default
returns-in_default g c = leaves_all _ _ _ c.keyed.ensures _ _ _ c.in_default.is

pub write-requires : goal.write-requires
write-requires g c = has_room _ _ _ c.keyed.ensures _ _ _ c.requires.4 _ c.in-Some.is

pub overflow_add-end : goal.overflow_add-end
overflow_add-end g c = omega (arith, ends_within _ _ _ c.keyed.ensures _ _ _ c.requires.4 _ c.in-Some.is _ c.write.ensures.0)

pub returns : goal.returns
returns g c = puts_one _ _ _ c.keyed.ensures _ _ _ c.requires.4 _ c.in-Some.is _ _ _ c.write.ensures
