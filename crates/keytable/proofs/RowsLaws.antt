-- Rows of numbers that grow by one at their end.
use mathlib.Core.Path.{◌≡◌, refl, ◌∙◌, ap}
use mathlib.Core.List.{List, [], ◌∷◌}
use Prim.Native.Nat.{ℕ, zero, suc, ◌+◌, ◌<◌}
use native.Mathlib.Numerals.{add-one}
use native.Mathlib.Omega.{arith}
use lib.ListN.{length, take, set, replicate, length-append, get_or-append}
use lib.Seq.{take-suc-set, get_or-append_seam}
use Rattle.rules.specs.Lists.{◌▷◌}
use Rattle.rules.specs.Sheets.{entry}
use Rattle.keytable.specs.Nodes.{Empty}

pub longer : (l : List ℕ) (x : ℕ) → length (l ▷ x) ≡ suc (length l)
longer l x = omega (arith, length-append l (x ∷ []))

pub entry_before : (l : List ℕ) (x v : ℕ) → v < length l → entry (l ▷ x) v ≡ entry l v
entry_before l x v h = get_or-append l (x ∷ []) 0 v h

pub entry_last : (l : List ℕ) (x : ℕ) → entry (l ▷ x) (length l) ≡ x
entry_last l x = get_or-append_seam l x [] 0

-- As code writes it behind those that stand.
pub written_last : (l : List ℕ) (n x : ℕ) → n < length l → take (n + 1) (set l n x) ≡ take n l ▷ x
written_last l n x h = ap (λ (m : ℕ). take m (set l n x)) (add-one n) ∙ take-suc-set l n x h

-- A row of so many times 0.
pub all_empty : (n : ℕ) → Empty (replicate n 0)
all_empty zero i = refl
all_empty (suc n) zero = refl
all_empty (suc n) (suc i) = all_empty n i
