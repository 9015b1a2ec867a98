-- `write_records` keeps what the first `i` records became written, one behind the other.
use Rattle.table.specs.ReadTable.{table_at}
use Rattle.translation.specs.Becoming.{key_table_at}
use Rattle.translation.proofs.WritingLaws.{Writing}
use Rattle.translation.proofs.sections.write_records.Given as goal

abbrev pub invariant-loop-i : goal.invariant-loop-i
invariant-loop-i g l =
    let k = g.K.KeyRecord.kind in
    Writing (k.ToKeys (table_at l.records.table.now)) k.bytes (k.records (table_at l.records.table.now)) (k.key_records (key_table_at l.records.table.now)) l.initial.out l.from l.out l.written l.i
