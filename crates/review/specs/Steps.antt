-- The depth that is told after a step.
use Rattle.std.specs.Prelude.{◌≡◌, Option, Some, None}
use Rattle.rules.specs.Depths.{Step}
use Rattle.rules.specs.declared.Depth.{Depth}

-- A step by a delegation, as the rules have it; none is left from depth 0.
abbrev pub Stepped : Depth → Depth → Option Depth → Type 0
Stepped before by (Some after) = Step before.0 by.0 after.0
Stepped before by None = before.0 ≡ 0
