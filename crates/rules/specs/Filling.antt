-- How a sheet is filled: entry after entry, each from those that stand already.
use Rattle.std.specs.Prelude.{◌≡◌, List, ℕ, ◌<◌, length}
use Rattle.rules.specs.Lists.{At, In, NoneTwice}
use Rattle.rules.specs.Tables.{Binding, NameTable}
use Rattle.rules.specs.Sheets.{entry}
use Rattle.rules.specs.Derivations.{chosen, Ordered}
use Rattle.rules.specs.Following.{InSheet, TargetLeads, Sound}
use Rattle.rules.specs.declared.Key.{Key}

-- `L` lists the bindings whose entries are filled, in an order in which each one's target gets its meaning from those before it; and what the entries
-- tell is what these bindings give.
pub record Filling (t : NameTable) (sheet L : List ℕ) : Type 0 where
  pub ordered : Ordered t L
  pub none_twice : NoneTwice L
  pub filled : (i : ℕ) → In L i → 0 < entry sheet i
  pub listed : (i : ℕ) → i < length t.bindings → 0 < entry sheet i → In L i
  pub sound : Sound t (chosen t.bindings L) (InSheet t sheet)

-- No entry that is still 0 could be filled.
pub record AtRest (t : NameTable) (sheet : List ℕ) : Type 0 where
  pub at_rest : (i : ℕ) (x : Binding) (k : Key) → At t.bindings i x → entry sheet i ≡ 0 → TargetLeads t (InSheet t sheet) x.target k → ⊥
