-- What opening a table answers.
use Rattle.std.specs.Prelude.{◌≡◌, List, ℕ, Result, Ok, Err}
use Rattle.records.specs.Parsed.{got, bad}
use Rattle.records.specs.declared.faults.Fault.{Fault}
use Rattle.table.specs.ReadTable.{Laid, read_table}
use Rattle.matching.specs.declared.good.Good.{Good}

-- The bytes hold a table, and the good table is over these bytes; or they have this fault.
abbrev pub Opens : List ℕ → Result Good Fault → Type 0
Opens s (Ok g) = (g.names.table.now ≡ s) × ((l : Laid) × (end : ℕ) × (read_table s ≡ got l end))
Opens s (Err e) = read_table s ≡ bad e
