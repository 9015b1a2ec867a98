-- Verdicts are one, and computed right.
use mathlib.Core.Path.{◌≡◌}
use Prim.Native.Nat.{ℕ, ◌≤◌}
use Rattle.rules.specs.Lists.{At}
use Rattle.rules.specs.Depths.{top}
use Rattle.rules.specs.Tables.{Table, Request}
use Rattle.rules.specs.Ranges.{Good}
use Rattle.rules.specs.Access.{Setting, Granted}
use Rattle.rules.specs.KeyTables.{KeyAccess, KeyTable, KeyRequest, key_setting}
use Rattle.rules.specs.Verdicts.{Verdict, Decides, DecidesByKeys}
use Rattle.rules.specs.Greatest.{key_verdict, verdict}
use Rattle.rules.specs.declared.Key.{Key}
use Rattle.rules.proofs.DepthsLaws.{Fits}
use Rattle.rules.proofs.GreatestLaws.{DepthAccount, ClosedDepths, account_greatest, has_one, greatest_right}
use Rattle.rules.proofs.VerdictsLaws.{decides_one, verdict_right}

-- Verdicts (granted with depth, no meaning, denied) are unique,
pub a_request_has_one_verdict : (t : Table) → Good t → (r : Request) {v w : Verdict} → Decides t r v → Decides t r w → v ≡ w
a_request_has_one_verdict = decides_one

-- over key tables too.
pub a_key_request_has_one_verdict : (K : KeyTable) (r : KeyRequest) {v w : Verdict} → DecidesByKeys K r v → DecidesByKeys K r w → v ≡ w
a_key_request_has_one_verdict K r = has_one (key_setting K r.asked) r.subject

-- The greatest depth computed by rounds is the greatest the rules derive: over a key table whose depths are at most 15,
pub rounds_find_the_greatest_by_keys : (K : KeyTable) → ((i : ℕ) (x : KeyAccess) → At K.accesses i x → x.depth ≤ top) → (r : KeyRequest) → DecidesByKeys K r (key_verdict K r)
rounds_find_the_greatest_by_keys K small r = greatest_right K r.asked small r.subject

-- and over any good table.
pub rounds_find_the_greatest : (t : Table) → Good t → (r : Request) → Decides t r (verdict t r)
rounds_find_the_greatest = verdict_right

-- So does any account of the depths of some keys, every writer's among them, that tells as much as each record gives, or more.
pub a_closed_account_has_the_greatest : (Y : Setting) (Watched : Key → Type 0) (D : DepthAccount) → ClosedDepths Y Watched D → Fits Y.Above → (k : Key) (d : ℕ) → Watched k
    → Granted Y k d → (r : ℕ) × D k r × (d ≤ r)
a_closed_account_has_the_greatest = account_greatest
