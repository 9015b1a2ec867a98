-- What is known after a table was opened, where its fault is passed on as a refusal.
use mathlib.Core.Path.{◌≡◌, ◌∙◌, ap}
use mathlib.Core.List.{List}
use Prim.Native.Nat.{ℕ}
use native.Mathlib.Omega.{arith}
use Rattle.std.specs.Prelude.{Result, Ok, Err, IsErrAnd, MatchResult}
use Rattle.std.proofs.lemmas.Result.{err_from_is_err_and}
use Rattle.records.specs.Parsed.{bad}
use Rattle.records.specs.declared.faults.Fault.{Fault}
use Rattle.table.specs.ReadTable.{read_table}
use Rattle.matching.specs.Opening.{Opens}
use Rattle.matching.specs.declared.good.Good.{Good}

module _ {V R : Type 0} (refused : Fault → R) (s : List ℕ) where
  -- The fault is the table's, and the refusal that of the fault.
  pub opened_bad : (r : Result Good Fault) → Opens s r → (e : R) {v : Result V R} → IsErrAnd v (λ d. d ≡ e)
      → MatchResult r (λ g. ◌≡◌ {A = Result Good R} (Err e) (Ok g)) (λ f. e ≡ refused f) → (f : Fault) × (read_table s ≡ bad f) × (v ≡ Err (refused f))
  opened_bad (Ok g) w e h q = let z : ◌≡◌ {A = ℕ} 0 1 = cc q in absurd (omega arith)
  opened_bad (Err f) w e {v = v} h q = let p = err_from_is_err_and v h in (f, w, p.1 ∙ ap Err (p.2 ∙ q))

-- The good table is over these bytes, and they hold a table.
pub opened_good : (R : Type 0) (s : List ℕ) (r : Result Good Fault) → Opens s r → (g : Good) → MatchResult r (λ x. ◌≡◌ {A = Result Good R} (Ok g) (Ok x)) (λ f. ⊥) → Opens s (Ok g)
opened_good R s (Err f) w g q = absurd q
opened_good R s (Ok x) w g q = (ap bytes_of q ∙ w.0, w.1)
  where
    bytes_of : Result Good R → List ℕ
    bytes_of (Ok y) = y.names.table.now
    bytes_of (Err e) = s
