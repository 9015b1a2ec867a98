-- The checker's answers over a good table, and over any bytes.
use mathlib.Core.Path.{◌≡◌, refl, sym, ◌∙◌, ap, subst}
use mathlib.Core.List.{List}
use mathlib.Core.Option.{Option, none, some}
use Prim.Native.Nat.{ℕ, zero, suc, ◌<◌}
use native.Mathlib.Omega.{arith}
use lib.ListN.{length, get_or, replicate}
use Rattle.std.specs.Prelude.{Option as Answer, Some, None, Result, Ok, Err, IsErrAnd, ok_or}
use Rattle.std.proofs.lemmas.Result.{err_from_is_err_and}
use Rattle.rules.specs.Tables.{Request, NameTable, Table}
use Rattle.rules.specs.Derivations.{Holds}
use Rattle.rules.specs.declared.Key.{Key}
use Rattle.wire.specs.Number.{Bytes}
use Rattle.records.specs.Targets.{target_of}
use Rattle.records.specs.Requests.{read_request, request_value, held_as}
use Rattle.records.specs.DerivationBytes.{Laid, read_derivation, parts_of}
use Rattle.records.specs.declared.derivations.Parts.{Parts}
use Rattle.records.specs.declared.requests.Request.{Request as RequestValue}
use Rattle.records.proofs.ParsedLaws.{some_or_none, some_one}
use Rattle.table.specs.ReadTable.{table_at}
use Rattle.sheet.specs.Finds.{FittingTarget}
use Rattle.sheet.proofs.KnownLaws.{table_at_lem}
use Rattle.matching.specs.Held.{Held}
use Rattle.matching.specs.Matching.{asked_of, Gives}
use Rattle.matching.specs.Opening.{Opens}
use Rattle.matching.specs.declared.Given.{Given}
use Rattle.matching.specs.declared.good.Good.{Good}
use Rattle.matching.proofs.AskedLaws.{Asks, asks, asks_nothing}
use Rattle.checker.specs.Walks.{Blank}
use Rattle.checker.specs.Promise.{Checked, ChecksGood, bad_request, not_derivation, accepted, Checks, good_table, HoldsAs}
use Rattle.checker.specs.declared.Refusal.TheVariants as refusal
use Rattle.matching.proofs.MatchingLaws.{gives_to, gives_none}

-- ---- what the readers' answers say
derivation_not : (p : Option Laid) → None ≡ held_as parts_of p → p ≡ none
derivation_not none e = refl
derivation_not (some x) e = let z : ◌≡◌ {A = ℕ} 0 1 = cc in absurd (omega arith)

derivation_is : (p : Option Laid) (v : Parts) → Some v ≡ held_as parts_of p → (x : Laid) × (p ≡ some x) × (parts_of x ≡ v)
derivation_is none v e = let z : ◌≡◌ {A = ℕ} 0 1 = cc in absurd (omega arith)
derivation_is (some x) v e = let q : parts_of x ≡ v = cc in (x, refl, q)

-- Where there is nothing, the answer is the refusal that stands for it.
pub refused_as : {A V R : Type 0} (o : Answer A) {r : Result V R} {e x : R} → IsErrAnd r (λ d. d ≡ e) → Err e ≡ ok_or o x → (None ≡ o) × (r ≡ Err x)
refused_as None {r = r} {e = e} {x = x} w q = let p = err_from_is_err_and r w in let u : e ≡ x = cc q in (refl, p.1 ∙ ap Err (p.2 ∙ u))
refused_as (Some y) w q = let z : ◌≡◌ {A = ℕ} 0 1 = cc q in absurd (omega arith)

zeros : (n i : ℕ) → get_or (replicate {A = ℕ} n 0) i 0 ≡ 0
zeros zero i = refl
zeros (suc n) zero = refl
zeros (suc n) (suc i) = zeros n i

pub blank_sheet : (t : NameTable) (n : ℕ) → Blank t (replicate n 0)
blank_sheet t n = record { zero = λ i h. zeros n i }

-- ---- over a good table
module _ (s keys names accesses delegations : List ℕ) (held : Held s keys names accesses delegations) (request derivation : List ℕ) where
  pub bad_request_lem : None ≡ held_as request_value (read_request (length keys) request) → ChecksGood (table_at s) request derivation (Err refusal.Request)
  bad_request_lem e = bad_request (asks_nothing s keys names accesses delegations held request e)

  module _ (bytes : Bytes request) (wish : RequestValue) (e : Some wish ≡ held_as request_value (read_request (length keys) request)) where
    is : Asks s keys request wish
    is = asks s keys names accesses delegations held request bytes wish e

    pub wish_fits : FittingTarget (length keys) wish.subject × (wish.owner.0 < length keys)
    wish_fits = (is.subject, is.owner)

    pub no_derivation : None ≡ held_as parts_of (read_derivation derivation) → ChecksGood (table_at s) request derivation (Err refusal.Derivation)
    no_derivation z = not_derivation is.read (λ v d q h. some_or_none q (derivation_not (read_derivation derivation) z))

    module _ (parts : Parts) (z : Some parts ≡ held_as parts_of (read_derivation derivation)) (end : Answer Given)
        (holds : HoldsAs (table_at s) (target_of wish.subject) (asked_of wish.owner wish.wanted) derivation parts end) where
      this : (x : Laid) × (read_derivation derivation ≡ some x) × (parts_of x ≡ parts)
      this = derivation_is (read_derivation derivation) parts z

      what_held : Gives (λ (k : Key) (d : ℕ). Holds (table_at s) is.value this.0.derivation d) end
      what_held = subst (λ (r : Request). Gives (λ (k : Key) (d : ℕ). Holds (table_at s) r this.0.derivation d) end) is.same (holds this.0 this.1 this.2)

      pub does_not_hold : end ≡ None → ChecksGood (table_at s) request derivation (Err refusal.Derivation)
      does_not_hold y =
          not_derivation is.read (λ v d q h.
          let u : this.0 ≡ v = some_one this.1 q in
          gives_none what_held y (record { 0 = 0 }) d (subst (λ (x : Laid). Holds (table_at s) is.value x.derivation d) (sym u) h))

      pub does_hold : (g : Given) → end ≡ Some g → ChecksGood (table_at s) request derivation (Ok g.depth)
      does_hold g y = accepted is.read this.1 (gives_to what_held y)

-- ---- over any bytes
pub table_good : (s request derivation : List ℕ) (g : Good) → Opens s (Ok g) → (a : Checked) → ChecksGood (table_at g.names.table.now) request derivation a → Checks s request derivation a
table_good s request derivation g w a h = good_table w.1.2 (subst (λ (t : Table). ChecksGood t request derivation a) (ap table_at w.0 ∙ table_at_lem s w.1.0 w.1.1 w.1.2) h)
