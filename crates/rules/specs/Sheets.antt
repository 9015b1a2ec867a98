-- The name sheet: a row of numbers, one per binding: the key its target means, or 0.
use Rattle.std.specs.Prelude.{◌≡◌, List, ℕ, ◌<◌, length, get_or}
use Rattle.rules.specs.Tables.{NameTable}
use Rattle.rules.specs.Names.{BindingMeans}
use Rattle.rules.specs.declared.Key.{Key}

-- What stands at number `i` of the sheet.
abbrev pub entry : List ℕ → ℕ → ℕ
entry sheet i = get_or sheet i 0

-- THE SHEET IS RIGHT: where a binding means a key, its entry is that key; and an entry that is not 0 is meant.
pub record Exact (t : NameTable) (sheet : List ℕ) : Type 0 where
  pub meant : (i : ℕ) (k : Key) → BindingMeans t i k → entry sheet i ≡ k.0
  pub sound : (i : ℕ) → i < length t.bindings → 0 < entry sheet i → BindingMeans t i (record { 0 = entry sheet i })
