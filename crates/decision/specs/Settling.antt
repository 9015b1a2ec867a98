-- What the subject has: the greatest depth, with a chain that gives it.
use Rattle.std.specs.Prelude.{◌≡◌, List, ℕ, zero, suc, ◌≤◌, drop, Option, Some, None}
use Rattle.rules.specs.Tables.{Asked, Table}
use Rattle.rules.specs.Depths.{top}
use Rattle.rules.specs.Sheets.{entry}
use Rattle.rules.specs.Access.{Setting, Chain, setting_by}
use Rattle.rules.specs.Verdicts.{Has}
use Rattle.rules.specs.Verdicts as verdict
use Rattle.rules.specs.declared.Depth.{Depth}
use Rattle.rules.specs.declared.Key.{Key}
use Rattle.rules.specs.declared.Space.{Space}
use Rattle.matching.specs.Matching.{told}
use Rattle.decision.specs.declared.settling.Settled.{Settled}

-- A row of nothing but 0.
pub record Zeros (l : List ℕ) : Type 0 where
  pub zero : (v : ℕ) → entry l v ≡ 0

-- A chain that gives the key the depth.
pub record ChainAt (Y : Setting) (k : Key) (d access : ℕ) (delegations : List ℕ) : Type 0 where
  pub name : Y.Name
  pub chain : Chain Y access delegations name d
  pub means : Y.Means name k

-- The subject has this depth and none above it, and the chain gives it; its delegations stand from `first` on.
pub record SettlesAt (t : Table) (sheet : List ℕ) (q : Asked Space) (subject : Key) (chain : List ℕ) (r : Settled) : Type 0 where
  pub most : r.depth.0 ≤ top
  pub has : Has (setting_by (told t sheet) t q) subject (verdict.granted r.depth.0)
  pub shown : ChainAt (setting_by (told t sheet) t q) subject r.depth.0 r.access (drop r.first chain)
  pub within : r.first ≤ top

-- THIS SETTLES what the subject has: the greatest depth, with a chain that gives it, or no access.
abbrev pub Settles : Table → List ℕ → Asked Space → Key → List ℕ → Option Settled → Type 0
Settles t sheet q subject chain (Some r) = SettlesAt t sheet q subject chain r
Settles t sheet q subject chain None = Has (setting_by (told t sheet) t q) subject verdict.denied

-- The depth that a code stands for: 0 stands for none, d + 1 for d.
abbrev pub depth_of : ℕ → Option Depth
depth_of zero = None
depth_of (suc d) = Some (record { 0 = d })
