-- What is refused where something is missing, and passed on.
use mathlib.Core.Path.{◌≡◌, refl, sym, ◌∙◌, ap}
use Prim.Native.Nat.{ℕ}
use native.Mathlib.Omega.{arith}
use Rattle.std.specs.Prelude.{Option, Some, None, Result, Ok, Err, IsErrAnd}
use Rattle.std.specs.Option.{ok_or}
use Rattle.std.specs.Result.{MatchResult}
use Rattle.std.proofs.lemmas.Result.{err_from_is_err_and}

module _ {T E : Type 0} (e : E) where
  pub is_there : (o : Option T) {x : T} → Ok x ≡ ok_or o e → o ≡ Some x
  is_there (Some y) {x = x} h = let q : x ≡ y = cc in ap Some (sym q)
  is_there None h = let z : ◌≡◌ {A = ℕ} 0 1 = cc in absurd (omega arith)

  pub is_missing : (o : Option T) {f : E} → Err f ≡ ok_or o e → (o ≡ None) × (f ≡ e)
  is_missing (Some y) h = let z : ◌≡◌ {A = ℕ} 0 1 = cc in absurd (omega arith)
  is_missing None {f = f} h = let q : f ≡ e = cc in (refl, q)

-- A refusal that is passed on is the answer.
pub passed : {T E : Type 0} {r : Result T E} {d e : E} → IsErrAnd r (λ x. x ≡ d) → d ≡ e → r ≡ Err e
passed {r = r} h same = let q = err_from_is_err_and r h in rw (q.1, q.2, same) refl

-- A Result whose error is made into another.
module _ {T E D : Type 0} (f : E → D) where
  pub was_good : (r : Result T E) (m : Result T D) {x : T} → MatchResult r (λ y. m ≡ Ok y) (λ e. IsErrAnd m (λ d. d ≡ f e)) → m ≡ Ok x → r ≡ Ok x
  was_good (Ok y) m {x = x} h o = let q : y ≡ x = cc (sym h ∙ o) in ap Ok q
  was_good (Err e) m h o = let q = err_from_is_err_and m h in let z : ◌≡◌ {A = ℕ} 0 1 = cc (sym q.1 ∙ o) in absurd (omega arith)

  pub was_bad : (r : Result T E) (m : Result T D) {d : D} → MatchResult r (λ y. m ≡ Ok y) (λ e. IsErrAnd m (λ d. d ≡ f e)) → m ≡ Err d → (e : E) × (r ≡ Err e) × (d ≡ f e)
  was_bad (Ok y) m h o = let z : ◌≡◌ {A = ℕ} 0 1 = cc (sym h ∙ o) in absurd (omega arith)
  was_bad (Err e) m {d = d} h o = let w = err_from_is_err_and m h in let q : d ≡ w.0 = cc (sym o ∙ w.1) in (e, refl, q ∙ w.2)
