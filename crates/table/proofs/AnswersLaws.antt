-- What the answer that tells only the place after what was read says of the reading.
use mathlib.Core.Path.{◌≡◌, ap}
use Prim.Native.Nat.{ℕ}
use native.Mathlib.Omega.{arith}
use Rattle.std.specs.Prelude.{Result, Ok, Err, IsErrAnd}
use Rattle.std.proofs.lemmas.Result.{err_from_is_err_and}
use Rattle.records.specs.Parsed.{Parsed, got, bad, after}
use Rattle.records.specs.declared.faults.Fault.{Fault}

module _ {A : Type 0} where
  pub after_got : (p : Parsed A) {at : ℕ} → Ok at ≡ after p → (x : A) × (p ≡ got x at)
  after_got (got x n) {at = at} e = let q : n ≡ at = cc in (x, ap (got x) q)
  after_got (bad g) e = let z : ◌≡◌ {A = ℕ} 0 1 = cc in absurd (omega arith)

  pub after_bad : (p : Parsed A) {e : Fault} → Err e ≡ after p → p ≡ bad e
  after_bad (got x n) h = let z : ◌≡◌ {A = ℕ} 0 1 = cc in absurd (omega arith)
  after_bad (bad d) {e = e} h = let q : d ≡ e = cc in ap bad q

  pub as_after : {p : Parsed A} {x : A} {at : ℕ} → p ≡ got x at → Ok at ≡ after p
  as_after e = rw e

  pub as_fault : {p : Parsed A} {e : Fault} → p ≡ bad e → Err e ≡ after p
  as_fault e = rw e

  -- A fault that is passed on is the reading's.
  pub after_passed_on : {p : Parsed A} {r : Result ℕ Fault} {e : Fault} → IsErrAnd r (λ d. d ≡ e) → p ≡ bad e → r ≡ after p
  after_passed_on {r = r} h e = let q = err_from_is_err_and r h in rw (q.1, q.2, e)
