-- Finding the space that has a key, and the binding that a space opens for a base name.
use Rattle.std.specs.Prelude.{◌≡◌, List, map, ℕ, ◌≤◌, Option, Some, None}
use Rattle.rules.specs.Lists.{At}
use Rattle.rules.specs.Ranges.{most_base}
use Rattle.rules.specs.Tables.{Target, Binding}
use Rattle.rules.specs.Names.{IsSelf, Opens}
use Rattle.rules.specs.declared.Key.{Key}
use Rattle.rules.specs.declared.Space.{Space}
use Rattle.records.specs.Bindings.{packed}

-- The space that has the key, or none.
pub data FindsSpace (spaces : List Key) (k : Key) : Option Space → Type 0 where
  has : (S : Space) → IsSelf spaces S k → FindsSpace spaces k (Some S)
  nobody : ((S : Space) → IsSelf spaces S k → ⊥) → FindsSpace spaces k None

-- The binding that the space opens for the base name, or none.
pub data FindsBinding (bindings : List Binding) (T : Space) (b : ℕ) : Option ℕ → Type 0 where
  opens : (i : ℕ) (g : Target) → Opens bindings T b i g → FindsBinding bindings T b (Some i)
  nothing : ((i : ℕ) (g : Target) → Opens bindings T b i g → ⊥) → FindsBinding bindings T b None

-- ---- what code keeps of them
-- The keys of the spaces, as numbers.
abbrev pub keys_of : List ℕ → List Key
keys_of = map {B = Key} (λ (n : ℕ). record { 0 = n })

-- The names that the bindings bind, packed.
pub record Names (bindings : List Binding) (names : List ℕ) : Type 0 where
  pub same : map (λ (x : Binding). packed x.space x.base) bindings ≡ names
  pub bases : (i : ℕ) (x : Binding) → At bindings i x → x.base ≤ most_base

-- In every list of bindings that binds these names.
abbrev pub FindsNamed : List ℕ → Space → ℕ → Option ℕ → Type 0
FindsNamed names T b r = (bindings : List Binding) → Names bindings names → FindsBinding bindings T b r
