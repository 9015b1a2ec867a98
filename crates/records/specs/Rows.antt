-- A row of numbers, looked through for one.
use Rattle.std.specs.Prelude.{◌≡◌, Bool, true, false, List, [], ◌∷◌, ℕ, ◌+◌, ◌*◌, ◌/◌, ◌%◌, ◌<◌, ◌≤◌, eqb, length, get_or}
use Rattle.rules.specs.Choice.{pick}

unfoldable pub is_among : List ℕ → ℕ → Bool
is_among [] n = false
is_among (m ∷ l) n = pick (eqb m n) true (is_among l n)

-- The first `i` numbers are others.
pub record Passed (l : List ℕ) (n i : ℕ) : Type 0 where
  pub most : i ≤ length l
  pub others : (j : ℕ) → j < i → get_or l j 0 ≡ n → ⊥

-- Number `i` of the row is the first that is it.
pub record First (l : List ℕ) (n i : ℕ) : Type 0 where
  pub passed : Passed l n i
  pub there : i < length l
  pub here : get_or l i 0 ≡ n

-- ---- marks, so that a number is looked for only where one that shares its mark stands
abbrev pub marks : ℕ
marks = 512

-- The place of a number's mark.
unfoldable pub mark_of : ℕ → ℕ
mark_of n = (n % 65536 + n / 65536 * 8) % marks

-- Every number of the row is marked; others may be as well.
pub record Marked (m l : List ℕ) : Type 0 where
  pub room : marks ≤ length m
  pub marked : (i : ℕ) → i < length l → 0 < get_or m (mark_of (get_or l i 0)) 0
