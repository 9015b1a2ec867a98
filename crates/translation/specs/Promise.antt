-- What the translation promises, over all byte strings.
use Rattle.std.specs.Prelude.{◌≡◌, Result, Ok, Err, List, ℕ, ◌<◌, ◌≤◌, length}
use Rattle.rules.specs.Names.{Means}
use Rattle.rules.specs.KeyTables.{KeyTable}
use Rattle.rules.specs.Translation.{Translates}
use Rattle.wire.specs.Placed.{placed}
use Rattle.records.specs.Parsed.{got, bad}
use Rattle.records.specs.declared.faults.Fault.{Fault}
use Rattle.table.specs.ReadTable.{Laid, table_of, read_table}
use Rattle.table.specs.ReadKeyTable.{most_key_table, key_table_bytes}
use Rattle.translation.specs.declared.Refusal.{Refusal}
use Rattle.translation.specs.declared.Refusal.TheVariants as refusal

-- The length of the key table; or why there is none.
abbrev pub Translated : Type 0
Translated = Result ℕ Refusal

-- THE ANSWER, and what the buffer holds then: the table's faults before all; Room; else the key table at the buffer's start, with its length. Later bytes
-- stay, and a refusal touches nothing.
pub data Answers (table before : List ℕ) : Translated → List ℕ → Type 0 where
  bad_table : {f : Fault} → read_table table ≡ bad f → Answers table before (Err (refusal.Table f)) before
  room : {l : Laid} {end : ℕ} → read_table table ≡ got l end → length before < most_key_table → Answers table before (Err refusal.Room) before
  done : {l : Laid} {end : ℕ} {K : KeyTable} → read_table table ≡ got l end → most_key_table ≤ length before → Translates (Means (table_of l).names) (table_of l) K
      → Answers table before (Ok (length (key_table_bytes K))) (placed before 0 (key_table_bytes K))
