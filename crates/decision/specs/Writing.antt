-- The derivation as it is written.
use Rattle.std.specs.Prelude.{◌≡◌, Bool, List, ℕ, ◌<◌, ◌≤◌, length, Option, Some, None}
use Rattle.rules.specs.Lists.{keep}
use Rattle.rules.specs.Derivations.{Derivation}
use Rattle.wire.specs.Placed.{placed}
use Rattle.records.specs.DerivationBytes.{derivation_bytes, most_derivation}
use Rattle.marking.specs.Marks.{marked}

-- The derivation that lists the marked ones of the listed bindings.
abbrev pub derivation_of : List Bool → List ℕ → ℕ → List ℕ → Derivation
derivation_of marks order access chain = record { bindings = keep (marked marks) order; access = access; delegations = chain }

-- Its bytes stand at the buffer's start, and every later byte is as it was; or it is too long, and the buffer is as it was.
pub data WritesDerivation (v : Derivation) (before after : List ℕ) : Option ℕ → Type 0 where
  bytes : length (derivation_bytes v) ≤ most_derivation → after ≡ placed before 0 (derivation_bytes v) → WritesDerivation v before after (Some (length (derivation_bytes v)))
  overrun : most_derivation < length (derivation_bytes v) → after ≡ before → WritesDerivation v before after None
