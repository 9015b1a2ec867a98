-- What the rules say of a request.
use Rattle.std.specs.Prelude.{ℕ, ◌≤◌}
use Rattle.rules.specs.Tables.{Table, Request}
use Rattle.rules.specs.Names.{TargetMeans}
use Rattle.rules.specs.Access.{Setting, Granted, setting}
use Rattle.rules.specs.KeyTables.{KeyTable, KeyRequest, key_setting}
use Rattle.rules.specs.declared.Key.{Key}

pub data Verdict : Type 0 where
  granted : ℕ → Verdict
  unnamed : Verdict
  denied : Verdict

-- What the holder of a key has: the greatest depth that the rules derive, or no access.
pub data Has (Y : Setting) (k : Key) : Verdict → Type 0 where
  greatest : {d : ℕ} → Granted Y k d → ((e : ℕ) → Granted Y k e → e ≤ d) → Has Y k (granted d)
  nothing : ((e : ℕ) → Granted Y k e → ⊥) → Has Y k denied

-- A request is granted if a name with access and the subject mean one and the same key.
pub record Grants (t : Table) (r : Request) (d : ℕ) : Type 0 where
  pub key : Key
  pub subject : TargetMeans t.names r.subject key
  pub granted : Granted (setting t r.asked) key d

-- THE VERDICT on a request.
pub data Decides (t : Table) (r : Request) : Verdict → Type 0 where
  named : {k : Key} {v : Verdict} → TargetMeans t.names r.subject k → Has (setting t r.asked) k v → Decides t r v
  means_nothing : ((k : Key) → TargetMeans t.names r.subject k → ⊥) → Decides t r unnamed

-- The same over a key table.
abbrev pub DecidesByKeys : KeyTable → KeyRequest → Verdict → Type 0
DecidesByKeys K r v = Has (key_setting K r.asked) r.subject v
