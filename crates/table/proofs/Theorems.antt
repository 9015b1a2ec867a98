-- One table has one byte string, and so has one key table.
use mathlib.Core.Path.{◌≡◌, sym, ◌∙◌, ap}
use mathlib.Core.List.{List}
use Prim.Native.Nat.{ℕ}
use native.Mathlib.Omega.{arith}
use lib.ListN.{length}
use Rattle.rules.specs.Ranges.{Good, GoodKeyTable}
use Rattle.rules.specs.Tables.{Table}
use Rattle.rules.specs.KeyTables.{KeyTable}
use Rattle.wire.specs.Number.{Bytes}
use Rattle.records.specs.Parsed.{got}
use Rattle.table.specs.ReadTable.{most_table, Laid, table_of, table_fields, read_table, table_bytes}
use Rattle.table.specs.ReadKeyTable.{most_key_table, KeyLaid, key_table_of, key_table_fields, read_key_table, key_table_bytes}
use Rattle.table.proofs.TableForm.{TableFits, table_rows, table_rows_lem, rows_format}
use Rattle.table.proofs.KeyTableForm.{key_table_rows, key_table_rows_lem, key_rows_format}
use Rattle.table.proofs.GoodForm.{fits_good, good_fits}
use Rattle.table.proofs.SizesLaws.{table_short, key_table_short}
use Rattle.table.proofs.WholeForm.{all_reads, all_one}

-- READING WHAT WAS ENCODED gives it back.
pub table_reads : (t : Table) → Good t → (l : Laid) × (read_table (table_bytes t) ≡ got l (length (table_bytes t))) × (table_of l ≡ t)
unfolding read_table
table_reads t g = all_reads table_fields table_of table_rows table_rows_lem TableFits table_bytes rows_format most_table t (good_fits t g) (omega (arith, table_short t g))

-- WHAT READS AS GOOD is the encoding of what was read, and that is a good table.
pub table_form : (s : List ℕ) (l : Laid) (end : ℕ) → Bytes s → read_table s ≡ got l end → (s ≡ table_bytes (table_of l)) × Good (table_of l)
unfolding read_table
table_form s l end b e =
    let w = all_one table_fields table_of table_rows table_rows_lem TableFits table_bytes rows_format most_table s l end b e in
    (w.0, fits_good (table_of l) w.1)

-- So two byte strings that hold one table are one.
pub one_table : (s s' : List ℕ) (l l' : Laid) (end end' : ℕ) → Bytes s → Bytes s' → read_table s ≡ got l end → read_table s' ≡ got l' end' → table_of l ≡ table_of l' → s ≡ s'
one_table s s' l l' end end' b b' e e' h = (table_form s l end b e).0 ∙ ap table_bytes h ∙ sym (table_form s' l' end' b' e').0

-- ---- the same of key tables
pub key_table_reads : (t : KeyTable) → GoodKeyTable t → (l : KeyLaid) × (read_key_table (key_table_bytes t) ≡ got l (length (key_table_bytes t))) × (key_table_of l ≡ t)
unfolding read_key_table
key_table_reads t g = all_reads key_table_fields key_table_of key_table_rows key_table_rows_lem GoodKeyTable key_table_bytes key_rows_format most_key_table t g (omega (arith, key_table_short t g))

pub key_table_form : (s : List ℕ) (l : KeyLaid) (end : ℕ) → Bytes s → read_key_table s ≡ got l end → (s ≡ key_table_bytes (key_table_of l)) × GoodKeyTable (key_table_of l)
unfolding read_key_table
key_table_form s l end b e = all_one key_table_fields key_table_of key_table_rows key_table_rows_lem GoodKeyTable key_table_bytes key_rows_format most_key_table s l end b e
