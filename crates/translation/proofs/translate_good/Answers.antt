-- `translate_good` fills a sheet, which is exact, and writes the key table by it; there is room for the longest.
use native.Mathlib.Omega.{arith}
use Rattle.translation.proofs.KeyTableLaws.{key_table_fits}
use Rattle.translation.proofs.translate_good.Goals as goal

pub write_key_table-requires : goal.write_key_table-requires
write_key_table-requires c = (
  record {
    room = rw c.records.ensures.packed (omega (arith, c.args.good.now.names.known.few_bindings));
    exact = rw c.records.ensures.table c.fill.ensures.exact;
  },
  rw c.records.ensures.table (key_table_fits _ c.args.good.now.held.good _ c.requires),
)
