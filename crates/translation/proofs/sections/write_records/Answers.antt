-- `write_records` keeps what the first `i` records became written, one behind the other.
use native.Mathlib.Omega.{arith}
use Rattle.translation.proofs.WritingLaws.{writing_start, writing_within, writing_room, writing_on, writing_end}
use Rattle.translation.proofs.GoodLaws.{key_table_translates}
use Rattle.translation.proofs.sections.write_records.Goals as goal

pub loop-i-init : goal.loop-i-init
loop-i-init g c = let k = g.met.K.KeyRecord.laws in writing_start _ _ _ _ _ _ (k.order _ _ (key_table_translates _ c.args.records.now.held.good))

pub write_record-written-requires : goal.write_record-written-requires
write_record-written-requires g c =
    let one = g.met.K.KeyRecord.laws.one _ c.args.records.now.held.good in (
      c.requires.0,
      omega (arith, c.requires.1),
      c.loop-i.invariant.passed.fewer,
      writing_within _ _ _ _ _ _ _ _ _ c.loop-i.invariant one c.requires.2,
      writing_room _ _ _ _ _ _ _ _ _ c.loop-i.invariant one c.requires.2 (omega (arith, c.requires.1)),
    )

pub loop-i-preserved : goal.loop-i-preserved
loop-i-preserved g c =
    writing_on _ _ _ _ _ _ _ _ _ c.loop-i.invariant (g.met.K.KeyRecord.laws.one _ c.args.records.now.held.good) c.requires.2 (omega (arith, c.requires.1)) _ _ c.write_record-written.ensures

pub returns : goal.returns
returns g c = writing_end _ _ _ _ _ _ _ _ _ c.loop-i.invariant (omega (arith, c.requires.1))
