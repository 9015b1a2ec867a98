-- What the checker promises, over all byte strings.
use Rattle.std.specs.Prelude.{◌≡◌, Option, Result, Ok, Err, List, ℕ, length}
use Rattle.std.proofs.Math.Option.{none, some}
use Rattle.rules.specs.Tables.{Target, Asked, Request, Table}
use Rattle.rules.specs.Derivations.{Holds}
use Rattle.rules.specs.declared.Key.{Key}
use Rattle.rules.specs.declared.Space.{Space}
use Rattle.rules.specs.declared.Depth.{Depth}
use Rattle.records.specs.Parsed.{got, bad}
use Rattle.records.specs.Requests.{read_request}
use Rattle.records.specs.DerivationBytes.{Laid, read_derivation, parts_of}
use Rattle.records.specs.declared.derivations.Parts.{Parts}
use Rattle.records.specs.declared.faults.Fault.{Fault}
use Rattle.table.specs.ReadTable.{Laid as LaidTable, table_of, read_table}
use Rattle.matching.specs.Matching.{Gives}
use Rattle.matching.specs.declared.Given.{Given}
use Rattle.checker.specs.declared.Refusal.{Refusal}
use Rattle.checker.specs.declared.Refusal.TheVariants as refusal

-- The depth of an accepted derivation; or why it is not accepted.
abbrev pub Checked : Type 0
Checked = Result Depth Refusal

-- THE ANSWER over a good table: Request; else 12 for everything wrong with the derivation; else accepted, with the depth at which it holds.
pub data ChecksGood (t : Table) (request derivation : List ℕ) : Checked → Type 0 where
  bad_request : read_request (length t.names.spaces) request ≡ none → ChecksGood t request derivation (Err refusal.Request)
  not_derivation : {r : Request} → read_request (length t.names.spaces) request ≡ some r
      → ((v : Laid) (d : ℕ) → read_derivation derivation ≡ some v → Holds t r v.derivation d → ⊥) → ChecksGood t request derivation (Err refusal.Derivation)
  accepted : {r : Request} {v : Laid} {d : Depth} → read_request (length t.names.spaces) request ≡ some r → read_derivation derivation ≡ some v → Holds t r v.derivation d.0
      → ChecksGood t request derivation (Ok d)

-- THE ANSWER: the table's faults before all.
pub data Checks (table request derivation : List ℕ) : Checked → Type 0 where
  bad_table : {f : Fault} → read_table table ≡ bad f → Checks table request derivation (Err (refusal.Table f))
  good_table : {l : LaidTable} {end : ℕ} {r : Checked} → read_table table ≡ got l end → ChecksGood (table_of l) request derivation r → Checks table request derivation r

-- ---- as code answers
-- A derivation that the bytes hold, with these parts, holds at the depth; or at none.
abbrev pub HoldsAs : Table → Target → Asked Space → List ℕ → Parts → Option Given → Type 0
HoldsAs t subject q s parts r =
    (v : Laid) → read_derivation s ≡ some v → parts_of v ≡ parts → Gives (λ (k : Key) (d : ℕ). Holds t (record { subject = subject; asked = q }) v.derivation d) r
