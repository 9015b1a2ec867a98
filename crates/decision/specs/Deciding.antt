-- What the steps of the decision find.
use Rattle.std.specs.Prelude.{◌≡◌, Bool, List, ℕ, length, Option, Some, None, Ok, Err}
use Rattle.std.proofs.Math.Option.{some}
use Rattle.rules.specs.Lists.{keep}
use Rattle.rules.specs.Tables.{Target, Asked, Table}
use Rattle.rules.specs.declared.Depth.{Depth}
use Rattle.rules.specs.declared.Space.{Space}
use Rattle.records.specs.Requests.{read_request}
use Rattle.marking.specs.Marks.{marked}
use Rattle.decision.specs.Showing.{AllMarked}
use Rattle.decision.specs.Writing.{WritesDerivation}
use Rattle.decision.specs.Promise.{Decided, DecidesGood}
use Rattle.decision.specs.declared.Refusal.TheVariants as refusal

-- Of the listed bindings `L` those that the chain and the subject need are written, with the chain.
pub record Shows (t : Table) (subject : Target) (access : ℕ) (chain L before after : List ℕ) (r : Option ℕ) : Type 0 where
  pub marks : List Bool
  pub all : AllMarked t subject access chain L marks
  pub written : WritesDerivation (record { bindings = keep (marked marks) L; access = access; delegations = chain }) before after r

-- The answer, by the depth that is settled and what was written.
abbrev pub answer_of : Depth → Option ℕ → Decided
answer_of d (Some n) = Ok (record { depth = d; length = n })
answer_of d None = Err refusal.Overrun

-- Whatever bytes hold the request, this is the answer to them.
abbrev pub DecidesAs : Table → Target → Asked Space → List ℕ → List ℕ → Decided → List ℕ → List ℕ → Type 0
DecidesAs t subject q sheet₀ derivation₀ a sheet derivation =
    (request : List ℕ) → read_request (length t.names.spaces) request ≡ some (record { subject = subject; asked = q }) → DecidesGood t request sheet₀ derivation₀ a sheet derivation
