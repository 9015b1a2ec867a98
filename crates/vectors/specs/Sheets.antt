-- What is answered of a table's name sheet.
use Rattle.std.specs.Prelude.{◌≡◌, List, ℕ, ◌≤◌, length, Result, Ok, Err}
use Rattle.rules.specs.Sheets.{Exact}
use Rattle.records.specs.Parsed.{got, bad}
use Rattle.records.specs.declared.faults.Fault.{Fault}
use Rattle.table.specs.ReadTable.{Laid, table_of, read_table}

-- As many entries as the table has bindings, of an exact sheet that has room for them; or the table's fault.
pub data SheetOf (s sheet : List ℕ) : Result ℕ Fault → Type 0 where
  entries : (l : Laid) (at : ℕ) → read_table s ≡ got l at → length l.bindings.records ≤ length sheet → Exact (table_of l).names sheet → SheetOf s sheet (Ok (length l.bindings.records))
  fault : (e : Fault) → read_table s ≡ bad e → SheetOf s sheet (Err e)
