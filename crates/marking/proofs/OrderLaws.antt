-- A list cut in two, and what an ordered list of bindings says of its parts.
use mathlib.Core.Path.{◌≡◌, refl, subst}
use mathlib.Core.Logic.{inl, inr}
use mathlib.Core.List.{List, [], ◌∷◌, ◌++◌, append_assoc, append-nil}
use Prim.Native.Nat.{ℕ, zero, suc, ◌<◌, ◌≤◌, suc-le-suc}
use native.Mathlib.Nat.{not-suc-le-zero, le_of_suc-le-suc, zero-lt-suc}
use native.Mathlib.Omega.{arith}
use lib.ListN.{length, take, drop, get_or}
use Rattle.rules.specs.Lists.{◌▷◌, In, NoneTwice}
use Rattle.rules.specs.Tables.{NameTable}
use Rattle.rules.specs.Derivations.{MeansFrom, OrderedAfter}

in_drop : (l : List ℕ) (n x : ℕ) → In (drop n l) x → In l x
in_drop [] zero x h = h
in_drop [] (suc n) x h = h
in_drop (y ∷ l) zero x h = h
in_drop (y ∷ l) (suc n) x h = inr (in_drop l n x h)

-- No element stands in both parts.
pub parts_apart : (l : List ℕ) → NoneTwice l → (n x : ℕ) → In (take n l) x → In (drop n l) x → ⊥
parts_apart [] h zero x a b = absurd a
parts_apart [] h (suc n) x a b = absurd a
parts_apart (y ∷ l) h zero x a b = absurd a
parts_apart (y ∷ l) h (suc n) x (inl e) b = h.0 (in_drop l n y (rw e b))
parts_apart (y ∷ l) h (suc n) x (inr a) b = parts_apart l h.1 n x a b

-- An element stands at some number, and in the part from any smaller number on.
pub stands_at : (l : List ℕ) (x : ℕ) → In l x → (n : ℕ) × (n < length l) × (get_or l n 0 ≡ x)
stands_at [] x h = absurd h
stands_at (y ∷ l) x (inl e) = (0, zero-lt-suc _, e)
stands_at (y ∷ l) x (inr h) = let r = stands_at l x h in (suc r.0, suc-le-suc r.1, r.2)

pub from_on : (l : List ℕ) (n i : ℕ) → n ≤ i → i < length l → In (drop n l) (get_or l i 0)
from_on [] n i h b = absurd (not-suc-le-zero b)
from_on (y ∷ l) zero zero h b = inl refl
from_on (y ∷ l) zero (suc i) h b = inr (from_on l zero i (omega arith) (le_of_suc-le-suc b))
from_on (y ∷ l) (suc n) zero h b = absurd (not-suc-le-zero h)
from_on (y ∷ l) (suc n) (suc i) h b = from_on l n i (le_of_suc-le-suc h) (le_of_suc-le-suc b)

-- The target of each listed binding gets its meaning from those before it.
pub ordered_at : (t : NameTable) (B L : List ℕ) → OrderedAfter t B L → (n : ℕ) → n < length L → MeansFrom t (B ++ take n L) (get_or L n 0)
ordered_at t B [] o n h = absurd (not-suc-le-zero h)
ordered_at t B (i ∷ L) o zero h = rw append-nil o.0
ordered_at t B (i ∷ L) o (suc n) h =
    subst (λ (M : List ℕ). MeansFrom t M (get_or L n 0)) (append_assoc B (i ∷ []) (take n L)) (ordered_at t (B ▷ i) L o.1 n (le_of_suc-le-suc h))
