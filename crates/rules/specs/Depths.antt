-- Depths: they run from 0 to 15, and one step below 15 is 14.
use Rattle.std.specs.Prelude.{◌≡◌, ℕ, zero, suc, ◌≤◌, ◌-◌, min, leb, Option, Some, None}
use Rattle.rules.specs.Choice.{pick}
use Rattle.rules.specs.declared.Depth.{Depth}

abbrev pub top : ℕ
top = 15

-- `a` is one depth above `d`.
pub data Above : ℕ → ℕ → Type 0 where
  next : {d : ℕ} → Above d (suc d)

-- A step from depth `a`, which must be 1 or more, by a delegation of depth `d` gives the smaller of a − 1 and d.
pub record Step (a d r : ℕ) : Type 0 where
  pub some : 1 ≤ a
  pub smaller : r ≡ min (a - 1) d

-- What the checked constructor answers: a number above 15 is refused.
abbrev pub made : ℕ → Option Depth
made n = pick (leb n top) (Some (record { 0 = n })) None

-- The step, computed. A code is 0 for no access, and d + 1 for access at d.
abbrev pub step_code : ℕ → ℕ → ℕ
step_code zero d = 0
step_code (suc zero) d = 0
step_code (suc (suc a)) d = suc (min a d)
