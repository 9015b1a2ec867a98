-- What marked bindings need: whatever their targets go through.
use Rattle.std.specs.Prelude.{◌≡◌, ◌⊎◌, Bool, true, List, ℕ}
use Rattle.rules.specs.Lists.{At, In}
use Rattle.rules.specs.Tables.{Binding, NameTable}
use Rattle.rules.specs.Names.{TargetThrough}
use Rattle.rules.specs.Sheets.{Exact}
use Rattle.rules.specs.Filling.{Filling}
use Rattle.marking.specs.Marks.{marked}

-- The sheet is exact, and the order lists its filled entries.
pub record Listed (t : NameTable) (sheet order : List ℕ) : Type 0 where
  pub exact : Exact t sheet
  pub filling : Filling t sheet order

-- Binding number `i` is marked, and its target goes through number `j`.
pub record Wanted (t : NameTable) (marks : List Bool) (i j : ℕ) : Type 0 where
  pub wanting : marked marks i ≡ true
  pub binding : Binding
  pub at : At t.bindings i binding
  pub through : TargetThrough t binding.target j

-- Every mark stays; whatever the target of a listed binding that is marked goes through is marked; and nothing is marked for another reason.
pub record Needed (t : NameTable) (L : List ℕ) (before after : List Bool) : Type 0 where
  pub kept : (i : ℕ) → marked before i ≡ true → marked after i ≡ true
  pub closed : (m : ℕ) (x : Binding) → In L m → marked after m ≡ true → At t.bindings m x → (j : ℕ) → TargetThrough t x.target j → marked after j ≡ true
  pub why : (j : ℕ) → marked after j ≡ true → (marked before j ≡ true) ⊎ ((m : ℕ) × In L m × Wanted t after m j)
