-- The step is the best that the rules allow.
use mathlib.Core.Path.{◌≡◌, refl, sym, ◌∙◌}
use Prim.Native.Nat.{ℕ, zero, suc, ◌≤◌, ◌-◌, min, zero-le}
use native.Mathlib.Nat.{le_trans, not-suc-le-zero, zero-lt-suc}
use native.Mathlib.Omega.{arith}
use Rattle.rules.specs.Depths.{Above, next, Step, step_code}

-- A step leads where the rules allow, and as deep as they allow.
pub record Fits (Over : ℕ → ℕ → Type 0) : Type 0 where
  pub allowed : (a d r : ℕ) → Step a d r → (r ≤ d) × ((a' : ℕ) × (a' ≤ a) × Over r a')
  pub best : (a d e a' : ℕ) → e ≤ d → Over e a' → a' ≤ a → (r : ℕ) × Step a d r × (e ≤ r)

pub fits : Fits Above
fits = record { allowed = λ a d r s. (omega (arith, s), (suc r, omega (arith, s), next)); best = λ a d e a' h up l. best a d e a' h up l }
  where
    best : (a d e a' : ℕ) → e ≤ d → Above e a' → a' ≤ a → (r : ℕ) × Step a d r × (e ≤ r)
    best a d e _ h next l = (min (a - 1) d, record { some = omega arith; smaller = refl }, omega arith)

pub step_one : {a d r r' : ℕ} → Step a d r → Step a d r' → r ≡ r'
step_one x y = x.smaller ∙ sym y.smaller

-- A step leads down.
pub step_down : {a d r : ℕ} → Step a d r → suc r ≤ a
step_down s = omega (arith, s)

-- From a greater depth a step leads as deep, or deeper.
pub step_more : (a a' d r : ℕ) → a ≤ a' → Step a d r → (r' : ℕ) × Step a' d r' × (r ≤ r')
step_more a a' d r h s =
    let f = fits.allowed a d r s in
    fits.best a' d r f.1.0 f.0 f.1.2 (le_trans f.1.1 h)

-- ---- the computed step
pub code_of_step : (a d r : ℕ) → Step a d r → step_code (suc a) d ≡ suc r
code_of_step zero d r s = absurd (not-suc-le-zero s.some)
code_of_step (suc a) d r s = omega (arith, s.smaller)

pub step_of_code : (c d r : ℕ) → step_code c d ≡ suc r → (a : ℕ) × (c ≡ suc a) × Step a d r
step_of_code zero d r e = absurd (omega arith)
step_of_code (suc zero) d r e = absurd (omega arith)
step_of_code (suc (suc a)) d r e = (suc a, refl, record { some = zero-lt-suc a; smaller = omega arith })

pub code_more : (a b d : ℕ) → a ≤ b → step_code a d ≤ step_code b d
code_more zero b d h = zero-le
code_more (suc zero) b d h = zero-le
code_more (suc (suc a)) zero d h = absurd (omega arith)
code_more (suc (suc a)) (suc zero) d h = absurd (omega arith)
code_more (suc (suc a)) (suc (suc b)) d h = omega arith
