-- The decision's answers to a request, over a good table and over any bytes.
use mathlib.Core.Path.{◌≡◌, sym, ◌∙◌, ap, subst}
use mathlib.Core.Logic.{◌⊎◌, inl, inr}
use mathlib.Core.List.{List}
use mathlib.Core.Option.{some}
use Rattle.std.specs.Prelude.{Some, None, Ok, Err}
use Prim.Native.Nat.{ℕ, ◌<◌, ◌≤◌}
use lib.ListN.{length}
use Rattle.rules.specs.Tables.{Table}
use Rattle.wire.specs.Number.{Bytes}
use Rattle.records.specs.Requests.{read_request, request_value, held_as}
use Rattle.records.specs.Targets.{target_of}
use Rattle.records.specs.declared.faults.Fault.{Fault}
use Rattle.records.specs.declared.requests.Request.{Request as RequestValue}
use Rattle.records.specs.DerivationBytes.{most_derivation}
use Rattle.table.specs.ReadTable.{table_at}
use Rattle.sheet.specs.Finds.{FittingTarget}
use Rattle.sheet.proofs.KnownLaws.{table_at_lem}
use Rattle.matching.specs.Matching.{asked_of}
use Rattle.matching.specs.Held.{Held}
use Rattle.matching.specs.Opening.{Opens}
use Rattle.matching.specs.declared.good.Good.{Good}
use Rattle.matching.proofs.AskedLaws.{Asks, asks, asks_nothing}
use Rattle.decision.specs.Promise.{Decided, sheet_size, DecidesGood, Decides}
use Rattle.decision.specs.Promise as promise
use Rattle.decision.specs.Deciding.{DecidesAs}
use Rattle.decision.specs.declared.Refusal.TheVariants as refusal

-- ---- before there is room
module _ (s keys names accesses delegations : List ℕ) (held : Held s keys names accesses delegations) (request sheet₀ derivation₀ : List ℕ) where
  pub bad_request_lem : None ≡ held_as request_value (read_request (length keys) request) → DecidesGood (table_at s) request sheet₀ derivation₀ (Err refusal.Request) sheet₀ derivation₀
  bad_request_lem e = promise.bad_request (asks_nothing s keys names accesses delegations held request e)

  module _ (bytes : Bytes request) (wish : RequestValue) (e : Some wish ≡ held_as request_value (read_request (length keys) request)) where
    is : Asks s keys request wish
    is = asks s keys names accesses delegations held request bytes wish e

    pub wish_fits : FittingTarget (length keys) wish.subject × (wish.owner.0 < length keys)
    wish_fits = (is.subject, is.owner)

    pub no_room : (length sheet₀ < sheet_size) ⊎ ((sheet_size ≤ length sheet₀) × (length derivation₀ < most_derivation)) → DecidesGood (table_at s) request sheet₀ derivation₀ (Err refusal.Room) sheet₀ derivation₀
    no_room (inl h) = promise.room is.read (inl h)
    no_room (inr h) = promise.room is.read (inr h.1)

    pub decided_so : (a : Decided) (sheet derivation : List ℕ) → DecidesAs (table_at s) (target_of wish.subject) (asked_of wish.owner wish.wanted) sheet₀ derivation₀ a sheet derivation
        → DecidesGood (table_at s) request sheet₀ derivation₀ a sheet derivation
    decided_so a sheet derivation h = h request (is.read ∙ ap some (sym is.same))

-- ---- over any bytes
module _ (s request sheet₀ derivation₀ : List ℕ) where
  pub table_bad : (f : Fault) → Opens s (Err f) → Decides s request sheet₀ derivation₀ (Err (refusal.Table f)) sheet₀ derivation₀
  table_bad f e = promise.bad_table e

  pub table_good : (g : Good) → Opens s (Ok g) → (a : Decided) (sheet derivation : List ℕ) → DecidesGood (table_at g.names.table.now) request sheet₀ derivation₀ a sheet derivation
      → Decides s request sheet₀ derivation₀ a sheet derivation
  table_good g o a sheet derivation h = promise.good_table o.1.2 (subst (λ (t : Table). DecidesGood t request sheet₀ derivation₀ a sheet derivation) (ap table_at o.0 ∙ table_at_lem s o.1.0 o.1.1 o.1.2) h)
