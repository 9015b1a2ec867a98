-- Keeping the marked ones of a list, in its own place.
use Rattle.std.specs.Prelude.{◌≡◌, Bool, List, ℕ, ◌+◌, ◌≤◌, length, take, drop}
use Rattle.rules.specs.Lists.{keep}
use Rattle.marking.specs.Marks.{marked}

-- The first `n` are those that are marked of the first `i` that were there before; from number `i` on the list is as it was.
pub record Kept (marks : List Bool) (before : List ℕ) (i : ℕ) (order : List ℕ) (n : ℕ) : Type 0 where
  pub size : length order ≡ length before
  pub most : n ≤ i
  pub same : take n order ≡ keep (marked marks) (take i before)
  pub rest : drop i order ≡ drop i before

-- One more is looked at.
pub record KeptOn (marks : List Bool) (i : ℕ) (order : List ℕ) (n : ℕ) (order' : List ℕ) (n' : ℕ) : Type 0 where
  pub on : (before : List ℕ) → Kept marks before i order n → Kept marks before (i + 1) order' n'
