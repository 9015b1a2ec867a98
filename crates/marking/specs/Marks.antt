-- Marks: a row of yes or no, one per binding.
use Rattle.std.specs.Prelude.{◌≡◌, ◌⊎◌, Bool, true, false, List, ℕ, get_or}
use Rattle.rules.specs.Tables.{NameTable}
use Rattle.rules.specs.Sheets.{Exact}
use Rattle.sheet.specs.Finds.{Index}

-- Whether binding number `i` is marked; past the end none is.
abbrev pub marked : List Bool → ℕ → Bool
marked m i = get_or m i false

-- Marked after are exactly those that were marked before and those with `P`.
pub record Adds (P : ℕ → Type 0) (before after : List Bool) : Type 0 where
  pub kept : (i : ℕ) → marked before i ≡ true → marked after i ≡ true
  pub added : (i : ℕ) → P i → marked after i ≡ true
  pub only : (i : ℕ) → marked after i ≡ true → (marked before i ≡ true) ⊎ P i

-- In every table that has this index, and of which the sheet is exact.
abbrev pub InExact : List ℕ → List ℕ → List ℕ → (NameTable → Type 0) → Type 0
InExact keys names sheet Q = (t : NameTable) → Index t keys names → Exact t sheet → Q t
