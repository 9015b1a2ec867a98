-- What is asked over a good table, as code passes it on.
use mathlib.Core.Path.{◌≡◌, refl, sym, ◌∙◌, ap, subst}
use mathlib.Core.List.{List}
use mathlib.Core.Option.{Option, none, some}
use Prim.Native.Nat.{ℕ, ◌<◌}
use native.Mathlib.Omega.{arith}
use lib.ListN.{length}
use Rattle.std.specs.Prelude.{Some, None}
use Rattle.rules.specs.Ranges.{GoodRequest}
use Rattle.rules.specs.Tables.{Target, Request}
use Rattle.wire.specs.Number.{Bytes}
use Rattle.records.specs.Targets.{target_of}
use Rattle.records.specs.Requests.{read_request, request_value, held_as}
use Rattle.records.specs.declared.requests.Request.{Request as RequestValue}
use Rattle.records.proofs.RequestsForm.{request_form}
use Rattle.table.specs.ReadTable.{table_at}
use Rattle.sheet.specs.Finds.{FittingTarget}
use Rattle.sheet.proofs.MeaningLaws.{index_spaces, target_fits, target_back}
use Rattle.matching.specs.Held.{Held}
use Rattle.matching.specs.Matching.{asked_of}
use Rattle.matching.proofs.MatchingLaws.{few_spaces_lem}

-- ---- what the reader's answer says
request_not : (p : Option Request) → None ≡ held_as request_value p → p ≡ none
request_not none e = refl
request_not (some x) e = let z : ◌≡◌ {A = ℕ} 0 1 = cc in absurd (omega arith)

request_is : (p : Option Request) (v : RequestValue) → Some v ≡ held_as request_value p → (x : Request) × (p ≡ some x) × (v ≡ request_value x)
request_is none v e = let z : ◌≡◌ {A = ℕ} 0 1 = cc in absurd (omega arith)
request_is (some x) v e = let q : v ≡ request_value x = cc in (x, refl, q)

-- The request that the bytes hold over the table, and the value that code has of it.
pub record Asks (s keys request : List ℕ) (wish : RequestValue) : Type 0 where
  pub value : Request
  pub read : read_request (length (table_at s).names.spaces) request ≡ some value
  pub same : record { subject = target_of wish.subject; asked = asked_of wish.owner wish.wanted } ≡ value
  pub subject : FittingTarget (length keys) wish.subject
  pub owner : wish.owner.0 < length keys

module _ (s keys names accesses delegations : List ℕ) (held : Held s keys names accesses delegations) (request : List ℕ) where
  spaces : length (table_at s).names.spaces ≡ length keys
  spaces = index_spaces (table_at s).names keys names held.index

  pub asks_nothing : None ≡ held_as request_value (read_request (length keys) request) → read_request (length (table_at s).names.spaces) request ≡ none
  asks_nothing e = ap (λ (n : ℕ). read_request n request) spaces ∙ request_not (read_request (length keys) request) e

  module _ (bytes : Bytes request) (wish : RequestValue) (e : Some wish ≡ held_as request_value (read_request (length keys) request)) where
    is : (x : Request) × (read_request (length keys) request ≡ some x) × (wish ≡ request_value x)
    is = request_is (read_request (length keys) request) wish e

    good : GoodRequest (length keys) is.0
    good = (request_form (length keys) (omega (arith, few_spaces_lem s keys names accesses delegations held)) request is.0 bytes is.1).1

    fits : FittingTarget (length keys) wish.subject × (wish.owner.0 < length keys)
    fits = subst (λ (v : RequestValue). FittingTarget (length keys) v.subject × (v.owner.0 < length keys)) (sym is.2) (target_fits (length keys) is.0.subject good.subject, good.owner)

    same_request : record { subject = target_of wish.subject; asked = asked_of wish.owner wish.wanted } ≡ is.0
    same_request =
        ap (λ (v : RequestValue). record { subject = target_of v.subject; asked = asked_of v.owner v.wanted }) is.2
        ∙ ap (λ (g : Target). record { subject = g; asked = is.0.asked }) (target_back (length keys) is.0.subject good.subject)

    pub asks : Asks s keys request wish
    asks = record { value = is.0; read = ap (λ (n : ℕ). read_request n request) spaces ∙ is.1; same = same_request; subject = fits.0; owner = fits.1 }
