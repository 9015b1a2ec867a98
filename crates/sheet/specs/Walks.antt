-- What a walk by a sheet finds, and what of it stays so while the sheet is filled further.
use Rattle.std.specs.Prelude.{◌≡◌, Option, Some, None, List, ℕ, ◌<◌, length}
use Rattle.rules.specs.Tables.{Target, NameTable}
use Rattle.rules.specs.Sheets.{entry}
use Rattle.rules.specs.Following.{InSheet, TargetLeads}
use Rattle.rules.specs.declared.Key.{Key}
use Rattle.sheet.specs.declared.following.Walked.{Walked}
use Rattle.sheet.specs.declared.following.Walked.TheVariants as walked

-- Every entry that was filled is as it was.
pub record Grown (before later : List ℕ) : Type 0 where
  pub stays : (i : ℕ) → 0 < entry before i → entry later i ≡ entry before i

-- The target leads to no key while entry `j` is 0, however the sheet grows.
pub record Stopped (t : NameTable) (sheet : List ℕ) (g : Target) (j : ℕ) : Type 0 where
  pub stopped : (later : List ℕ) → Grown sheet later → entry later j ≡ 0 → (k : Key) → TargetLeads t (InSheet t later) g k → ⊥

-- The target leads to no key, however the sheet grows.
pub record Nowhere (t : NameTable) (sheet : List ℕ) (g : Target) : Type 0 where
  pub nowhere : (later : List ℕ) → Grown sheet later → (k : Key) → TargetLeads t (InSheet t later) g k → ⊥

-- Where a target leads.
pub data Walks (t : NameTable) (sheet : List ℕ) (g : Target) : Walked → Type 0 where
  key : (k : Key) → TargetLeads t (InSheet t sheet) g k → Walks t sheet g (walked.Key k)
  waits : (j : ℕ) → j < length t.bindings → entry sheet j ≡ 0 → Stopped t sheet g j → Walks t sheet g (walked.Waits j)
  nothing : Nowhere t sheet g → Walks t sheet g walked.Nothing

abbrev pub for_now : Walked → Option Key
for_now (walked.Key k) = Some k
for_now (walked.Waits j) = None
for_now walked.Nothing = None
