-- `write_section` puts the count before the records once they are written.
use Rattle.translation.proofs.KeyTableLaws.{few_written}
use Rattle.translation.proofs.SectionsLaws.{records_room, count_room, section_written}
use Rattle.translation.proofs.sections.write_section.Goals as goal

pub write_records-written-requires : goal.write_records-written-requires
write_records-written-requires g c = (c.requires.0, c.requires.1, records_room _ _ c.args.out.now _ (few_written _ g.met.K.KeyRecord.laws _ c.args.records.now.held.good) c.requires.2)

pub put_count-requires : goal.put_count-requires
put_count-requires g c = count_room _ _ c.args.out.now _ (few_written _ g.met.K.KeyRecord.laws _ c.args.records.now.held.good) c.requires.2 _ _ c.write_records-written.ensures

pub returns : goal.returns
returns g c = section_written _ _ c.args.out.now _ (few_written _ g.met.K.KeyRecord.laws _ c.args.records.now.held.good) c.requires.2 _ _ c.write_records-written.ensures _ _ c.put_count.ensures
