-- The kinds of cases, by their numbers in a case file.
use Rattle.std.specs.Prelude.{◌≡◌, ℕ, Result, Ok, Err}
use Rattle.vectors.specs.declared.input.Stopped.{Stopped}
use Rattle.vectors.specs.declared.input.Stopped.TheVariants.{NoSuchKind}
use Rattle.vectors.specs.declared.kinds.Kind.{Kind}
use Rattle.vectors.specs.declared.kinds.Kind.TheVariants as kind

abbrev pub number_of : Kind → ℕ
number_of kind.Table = 1
number_of kind.Request = 2
number_of kind.Derivation = 3
number_of kind.KeyTable = 4
number_of kind.KeyRequest = 5
number_of kind.Sheet = 6
number_of kind.Decision = 10
number_of kind.Check = 11
number_of kind.Translation = 12
number_of kind.KeyDecision = 13

-- The kind of this number, or that no kind has it.
abbrev pub KindOf : ℕ → Result Kind Stopped → Type 0
KindOf n (Ok k) = number_of k ≡ n
KindOf n (Err e) = (e ≡ NoSuchKind) × ((k : Kind) → number_of k ≡ n → ⊥)
