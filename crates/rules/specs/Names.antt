-- The rules for names. A name is a space and a path.
use Rattle.std.specs.Prelude.{◌≡◌, List, [], ◌∷◌, ◌++◌, ℕ}
use Rattle.rules.specs.Lists.{At, ◌▷◌}
use Rattle.rules.specs.Tables.{Path, Target, to_key, to_name, Binding, NameTable}
use Rattle.rules.specs.declared.Key.{Key}
use Rattle.rules.specs.declared.Space.{Space}

-- `k` is the SELF key of the space `S`.
pub record IsSelf (spaces : List Key) (S : Space) (k : Key) : Type 0 where
  pub at : At spaces S.0 k

-- Whose binding is opened when the space `T` is asked for the base name `b`: its own.
unfoldable pub opener : Space → ℕ → Space
opener T b = T

-- Asked for the base name `b`, the space `T` opens binding number `i`, which has the target `g`.
pub record Opens (bindings : List Binding) (T : Space) (b i : ℕ) (g : Target) : Type 0 where
  pub at : At bindings i (record { space = opener T b; base = b; target = g })

-- THE RULES. These, and nothing else, give meanings; a name that no finite use of them reaches has none.
pub data Means (t : NameTable) : Space → Path → Key → Type 0 where
  -- The empty path in space S means the SELF key of S.
  self : {S : Space} {k : Key} → IsSelf t.spaces S k → Means t S [] k
  -- Path p followed by b, in S: if p in S means the SELF key of a space T, and T binds b to a key, the name means that key;
  bound_to_key : {S T : Space} {p : Path} {b i : ℕ} {k k' : Key} → Means t S p k → IsSelf t.spaces T k → Opens t.bindings T b i (to_key k') → Means t S (p ▷ b) k'
  -- if T binds b to a name that means k, it means k.
  bound_to_name : {S T S' : Space} {p p' : Path} {b i : ℕ} {k k' : Key} → Means t S p k → IsSelf t.spaces T k → Opens t.bindings T b i (to_name S' p') → Means t S' p' k'
      → Means t S (p ▷ b) k'

-- What a target means. A key as a target means itself.
abbrev pub TargetMeans : NameTable → Target → Key → Type 0
TargetMeans t (to_key k') k = k' ≡ k
TargetMeans t (to_name S p) k = Means t S p k

-- What binding number `i` means: what its target means.
pub record BindingMeans (t : NameTable) (i : ℕ) (k : Key) : Type 0 where
  pub binding : Binding
  pub at : At t.bindings i binding
  pub means : TargetMeans t binding.target k

-- The name goes through binding number `i`: a first part of its path means the SELF key of a space that opens this binding for the base name after it.
pub record Through (t : NameTable) (S : Space) (p : Path) (i : ℕ) : Type 0 where
  pub before : Path
  pub base : ℕ
  pub after : Path
  pub parts : p ≡ before ++ (base ∷ after)
  pub key : Key
  pub means : Means t S before key
  pub space : Space
  pub is_self : IsSelf t.spaces space key
  pub target : Target
  pub opens : Opens t.bindings space base i target

abbrev pub TargetThrough : NameTable → Target → ℕ → Type 0
TargetThrough t (to_key k) i = ⊥
TargetThrough t (to_name S p) i = Through t S p i

-- Binding number `i` leads to number `j`, directly or through others.
pub data LeadsTo (t : NameTable) : ℕ → ℕ → Type 0 where
  directly : {i j : ℕ} {x : Binding} → At t.bindings i x → TargetThrough t x.target j → LeadsTo t i j
  through_others : {i j l : ℕ} → LeadsTo t i j → LeadsTo t j l → LeadsTo t i l
