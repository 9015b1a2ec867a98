-- `write_key_table` writes the version and the two sections one behind the other.
use Rattle.translation.proofs.KeyTableLaws.{version_room, accesses_room, delegations_room, key_table_written}
use Rattle.translation.proofs.write_key_table.Goals as goal

pub write-at1-requires : goal.write-at1-requires
write-at1-requires c = version_room c.args.records.now.table.now c.args.out.now c.requires.1

pub write_section-at2-requires : goal.write_section-at2-requires
write_section-at2-requires c = (c.requires.0, c.args.records.now.held.access_count, accesses_room c.args.records.now.table.now c.args.out.now c.requires.1 _ _ c.write-at1.ensures)

pub write_section-requires : goal.write_section-requires
write_section-requires c = (c.requires.0, c.args.records.now.held.delegation_count, delegations_room c.args.records.now.table.now c.args.out.now c.requires.1 _ _ c.write-at1.ensures _ _ c.write_section-at2.ensures)

pub returns : goal.returns
returns c = key_table_written c.args.records.now.table.now c.args.out.now c.requires.1 _ _ c.write-at1.ensures _ _ c.write_section-at2.ensures _ _ c.write_section.ensures
