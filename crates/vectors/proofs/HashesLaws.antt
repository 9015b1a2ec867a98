-- The bytes of numbers, hashed number by number.
use mathlib.Core.Path.{◌≡◌, refl, sym, ◌∙◌}
use mathlib.Core.List.{List, [], ◌∷◌}
use Prim.Native.Nat.{ℕ}
use Rattle.std.specs.Prelude.{fold}
use Rattle.std.proofs.lemmas.List.Sums.{fold-append}
use Rattle.records.specs.Many.{many_bytes}
use Rattle.vectors.specs.Hashes.{hashed, hash_from, four_bytes, numbers_bytes}

pub hash_numbers : (h : ℕ) (l : List ℕ) → fold (λ h n. hash_from h (four_bytes n)) h l ≡ hash_from h (numbers_bytes l)
unfolding many_bytes
hash_numbers h [] = refl
hash_numbers h (n ∷ l) = hash_numbers (hash_from h (four_bytes n)) l ∙ sym (fold-append hashed h (four_bytes n) (numbers_bytes l))
