-- What words say.
use Rattle.std.specs.Prelude.{Bool, true, false, List, [], ◌∷◌, ℕ, ◌+◌, ◌-◌, ◌*◌, ltb, eqb, Option, Some, None}
use Rattle.rules.specs.Choice.{pick}
use Rattle.wire.specs.Number.{most_number}

-- The number that decimal digits say behind others that said `value`; the byte of the digit 0 is 48, and that of 9 is 57.
unfoldable pub digits_after : ℕ → List ℕ → Option ℕ
digits_after value [] = Some value
digits_after value (d ∷ s) =
    pick (ltb d 48) None (pick (ltb 57 d) None (pick (ltb most_number (10 * value + (d - 48))) None (digits_after (10 * value + (d - 48)) s)))

-- THE NUMBER that a word says: one digit at least, and at most 4,294,967,295.
unfoldable pub number_said : List ℕ → Option ℕ
number_said [] = None
number_said (d ∷ s) = digits_after 0 (d ∷ s)

-- Whether two words are the same.
unfoldable pub alike : List ℕ → List ℕ → Bool
alike [] [] = true
alike [] (b ∷ t) = false
alike (a ∷ s) [] = false
alike (a ∷ s) (b ∷ t) = pick (eqb a b) (alike s t) false
