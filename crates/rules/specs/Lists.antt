-- Lists whose elements are numbered from 0.
use Rattle.std.specs.Prelude.{◌≡◌, ◌⊎◌, Bool, List, [], ◌∷◌, ◌++◌, ℕ, ◌<◌, length, get_or}
use Rattle.rules.specs.Choice.{pick}

-- `x` is number `i` of the list.
pub record At {ℓ} {A : Type ℓ} (l : List A) (i : ℕ) (x : A) : Type ℓ where
  pub there : i < length l
  pub is : get_or l i x ≡ x

-- `l` followed by `x`.
infixl 66 ◌▷◌
abbrev pub ◌▷◌ {ℓ} : {A : Type ℓ} → List A → A → List A
l ▷ x = l ++ (x ∷ [])

-- `x` is among the elements.
abbrev pub In : List ℕ → ℕ → Type 0
In [] x = ⊥
In (y ∷ l) x = (y ≡ x) ⊎ In l x

-- No element stands twice.
abbrev pub NoneTwice : List ℕ → Type 0
NoneTwice [] = Unit {0}
NoneTwice (x ∷ l) = (In l x → ⊥) × NoneTwice l

-- The elements that pass the test.
abbrev pub keep : (ℕ → Bool) → List ℕ → List ℕ
keep f [] = []
keep f (x ∷ l) = pick (f x) (x ∷ keep f l) (keep f l)
