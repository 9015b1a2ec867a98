-- Settling a request by a code: 0 for no access, and d + 1 for access at d.
use Rattle.std.specs.Prelude.{List, ℕ, zero, suc, ◌≤◌, Ok, Err}
use Rattle.rules.specs.Depths.{top}
use Rattle.rules.specs.Sheets.{entry}
use Rattle.rules.specs.KeyTables.{KeyTable, KeyRequest}
use Rattle.rules.specs.Verdicts.{DecidesByKeys}
use Rattle.rules.specs.Greatest.{verdict_of}
use Rattle.keytable.specs.Matching.{MatchedOf}
use Rattle.keytable.specs.Deciding.{KeyAnswer}
use Rattle.keytable.specs.declared.KeyRefusal.TheVariants as refusal

-- A row of codes.
abbrev pub Codes : List ℕ → Type 0
Codes best = (v : ℕ) → entry best v ≤ suc top

-- The code settles every request whose matching records these are.
pub record Settles (edges start : List ℕ) (code : ℕ) : Type 0 where
  pub most : code ≤ suc top
  pub verdict : (K : KeyTable) (r : KeyRequest) → MatchedOf K r edges start → DecidesByKeys K r (verdict_of code)

-- The answer that the code stands for.
abbrev pub answer_of : ℕ → KeyAnswer
answer_of zero = Err refusal.Denied
answer_of (suc d) = Ok (record { 0 = d })
