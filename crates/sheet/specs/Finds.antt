-- What following a path finds, with the index of a table: the keys of its spaces, and the names that its bindings bind.
use Rattle.std.specs.Prelude.{◌≡◌, Option, Some, None, List, ℕ, ◌-◌, ◌<◌}
use Rattle.rules.specs.Tables.{NameTable}
use Rattle.rules.specs.Ranges.{GoodNames}
use Rattle.rules.specs.declared.Key.{Key}
use Rattle.records.specs.declared.paths.Path.{Path}
use Rattle.records.specs.declared.targets.Target.{Target}
use Rattle.records.specs.declared.targets.Target.TheVariants as target
use Rattle.table.specs.Finding.{keys_of, Names}

-- A key that fits, or none does.
pub data Finds (P : Key → Type 0) : Option Key → Type 0 where
  key : (k : Key) → P k → Finds P (Some k)
  nothing : ((k : Key) → P k → ⊥) → Finds P None

-- The index of a good table.
pub record Index (t : NameTable) (keys names : List ℕ) : Type 0 where
  pub good : GoodNames t
  pub spaces : keys_of keys ≡ t.spaces
  pub bindings : Names t.bindings names

-- In every table that has this index.
abbrev pub InTables : List ℕ → List ℕ → (NameTable → Type 0) → Type 0
InTables keys names Q = (t : NameTable) → Index t keys names → Q t

-- ---- paths and targets as code holds them
-- At most four names, each of them below 65,536.
pub record Fitting (p : Path) : Type 0 where
  pub short : p.length < 5
  pub first : p.first < 65536
  pub second : p.second < 65536
  pub third : p.third < 65536
  pub fourth : p.fourth < 65536

abbrev pub FittingTarget : ℕ → Target → Type 0
FittingTarget spaces (target.Key k) = Unit {0}
FittingTarget spaces (target.Name S p) = (S.0 < spaces) × Fitting p

abbrev pub rest_of : Path → Path
rest_of p = record { length = p.length - 1; first = p.second; second = p.third; third = p.fourth; fourth = 0 }
