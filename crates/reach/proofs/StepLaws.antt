-- The step of codes, as code takes it.
use mathlib.Core.Path.{◌≡◌, refl}
use Prim.Native.Nat.{ℕ, zero, suc, ◌+◌, ◌-◌, ◌<◌, ◌≤◌, zero-le, min}
use native.Mathlib.Omega.{arith}
use Rattle.rules.specs.Depths.{step_code}

pub step_none : (c d : ℕ) → c < 2 → 0 ≡ step_code c d
step_none zero d h = refl
step_none (suc zero) d h = refl
step_none (suc (suc c)) d h = absurd (omega arith)

pub step_on : (c d m : ℕ) → 2 ≤ c → m ≡ min d (c - 2) → m + 1 ≡ step_code c d
step_on zero d m h e = absurd (omega arith)
step_on (suc zero) d m h e = absurd (omega arith)
step_on (suc (suc c)) d m h e = omega arith

-- A step never leads up, and from access it leads down.
pub step_below : (c d : ℕ) → step_code c d ≤ c
step_below zero d = zero-le
step_below (suc zero) d = zero-le
step_below (suc (suc c)) d = omega arith

pub step_less : (c d : ℕ) → 0 < step_code c d → step_code c d < c
step_less zero d h = absurd (omega arith)
step_less (suc zero) d h = absurd (omega arith)
step_less (suc (suc c)) d h = omega arith
