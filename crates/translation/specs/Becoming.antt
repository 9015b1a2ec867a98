-- What the records of a table become, one by one.
use Rattle.std.specs.Prelude.{List, ℕ, ◌+◌, ◌≤◌, length, Option, Some, None}
use Rattle.rules.specs.Lists.{At}
use Rattle.rules.specs.Sheets.{Exact}
use Rattle.rules.specs.KeyTables.{KeyTable}
use Rattle.rules.specs.Translation.{translate}
use Rattle.rules.specs.Greatest.{teller}
use Rattle.wire.specs.Placed.{placed}
use Rattle.table.specs.ReadTable.{table_at}
use Rattle.matching.specs.declared.good.Records.{Records}
use Rattle.translation.specs.Kinds.{Kind}
use Rattle.translation.specs.declared.sections.Written.{Written}

-- Record number `i` of the list becomes `y`.
pub record Becomes {A B : Type 0} (ToKeys : A → B → Type 0) (l : List A) (i : ℕ) (y : B) : Type 0 where
  pub from : A
  pub at : At l i from
  pub keys : ToKeys from y

-- Record number `i` of the kind in the table in the bytes becomes `y`.
abbrev pub BecomesKeyed : (K : Kind) → List ℕ → ℕ → K.KeyRecord → Type 0
BecomesKeyed K s i = Becomes (K.ToKeys (table_at s)) (K.records (table_at s)) i

-- ---- what is done with a record
-- It is told what the record becomes, as code has it, or that it becomes nothing.
pub data Keyed {V B : Type 0} (P : B → Type 0) (told : V → B) : Option V → Type 0 where
  becomes : {v : V} → P (told v) → Keyed P told (Some v)
  nothing : ((y : B) → P y → ⊥) → Keyed P told None

-- What it becomes is placed behind what is written, and counted; where it becomes nothing, all stays.
pub data Puts {B : Type 0} (P : B → Type 0) (E : B → List ℕ) (before : List ℕ) (written : Written) : List ℕ → Written → Type 0 where
  put : {y : B} → P y → Puts P E before written (placed before written.end (E y)) (record { count = written.count + 1; end = written.end + length (E y) })
  left : ((y : B) → P y → ⊥) → Puts P E before written before written

-- There is room for it.
pub record RoomFor {B : Type 0} (P : B → Type 0) (E : B → List ℕ) (out : List ℕ) (at : ℕ) : Type 0 where
  pub room : (y : B) → P y → at + length (E y) ≤ length out

-- Of a good table's records, an exact sheet.
pub record Ready (r : Records) (sheet : List ℕ) : Type 0 where
  pub room : length r.lookup.packed.now ≤ length sheet
  pub exact : Exact (table_at r.table.now).names sheet

-- The key table that the table in good bytes becomes.
unfoldable pub key_table_at : List ℕ → KeyTable
key_table_at s = translate (teller (table_at s)) (table_at s)
