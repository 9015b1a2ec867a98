-- One of two, by a test.
use Rattle.std.specs.Prelude.{Bool, true, false}

-- `a` where the test passes, and else `b`.
abbrev pub pick {ℓ} : {A : Type ℓ} → Bool → A → A → A
pick true a b = a
pick false a b = b
