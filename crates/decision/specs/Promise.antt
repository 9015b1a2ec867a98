-- What the decision promises, over all byte strings and buffers.
use Rattle.std.specs.Prelude.{◌≡◌, ◌⊎◌, List, ℕ, ◌<◌, ◌≤◌, length, drop, Result, Ok, Err}
use Rattle.std.proofs.Math.Option.{none, some}
use Rattle.rules.specs.Tables.{Request, NameTable, Table}
use Rattle.rules.specs.Names.{TargetMeans}
use Rattle.rules.specs.Sheets.{Exact}
use Rattle.rules.specs.Access.{setting}
use Rattle.rules.specs.Derivations.{Shown}
use Rattle.rules.specs.Verdicts.{Has}
use Rattle.rules.specs.Verdicts as verdict
use Rattle.rules.specs.declared.Key.{Key}
use Rattle.rules.specs.declared.Depth.{Depth}
use Rattle.wire.specs.Placed.{placed}
use Rattle.records.specs.Parsed.{got, bad}
use Rattle.records.specs.Requests.{read_request}
use Rattle.records.specs.DerivationBytes.{Laid, read_derivation, derivation_bytes, most_derivation}
use Rattle.records.specs.declared.faults.Fault.{Fault}
use Rattle.table.specs.ReadTable.{Laid as LaidTable, table_of, read_table}
use Rattle.decision.specs.declared.Grant.{Grant}
use Rattle.decision.specs.declared.Refusal.{Refusal}
use Rattle.decision.specs.declared.Refusal.TheVariants as refusal

-- What the decision answers.
abbrev pub Decided : Type 0
Decided = Result Grant Refusal

-- The entries of a sheet that is lent.
abbrev pub sheet_size : ℕ
sheet_size = 256

-- The sheet is filled: its first entries, one per binding, are exact, and those past them as they were.
pub record SheetFilled (t : NameTable) (before sheet : List ℕ) : Type 0 where
  pub size : length sheet ≡ length before
  pub exact : Exact t sheet
  pub past : drop (length t.bindings) sheet ≡ drop (length t.bindings) before

-- The request is accepted, there is room for the sheet and for a derivation, and the sheet is filled.
pub record Ready (t : Table) (request sheet₀ derivation₀ : List ℕ) (r : Request) (sheet : List ℕ) : Type 0 where
  pub accepted : read_request (length t.names.spaces) request ≡ some r
  pub room_for_sheet : sheet_size ≤ length sheet₀
  pub room_for_derivation : most_derivation ≤ length derivation₀
  pub filled : SheetFilled t.names sheet₀ sheet

-- The bytes hold a derivation that comes with a grant at the depth.
pub record Hold (t : Table) (r : Request) (d : ℕ) (bytes : List ℕ) : Type 0 where
  pub shown : Shown t r d
  pub laid : Laid
  pub read : read_derivation bytes ≡ some laid
  pub same : laid.derivation ≡ shown.derivation

-- THE ANSWER over a good table, with the sheet and the derivation after it.
pub data DecidesGood (t : Table) (request sheet₀ derivation₀ : List ℕ) : Decided → List ℕ → List ℕ → Type 0 where
  -- 8, Request
  bad_request : read_request (length t.names.spaces) request ≡ none → DecidesGood t request sheet₀ derivation₀ (Err refusal.Request) sheet₀ derivation₀
  -- 9, Room
  room : {r : Request} → read_request (length t.names.spaces) request ≡ some r → (length sheet₀ < sheet_size) ⊎ (length derivation₀ < most_derivation)
      → DecidesGood t request sheet₀ derivation₀ (Err refusal.Room) sheet₀ derivation₀
  -- 10, Unnamed: the subject has no meaning
  unnamed : {r : Request} {sheet : List ℕ} → Ready t request sheet₀ derivation₀ r sheet → ((k : Key) → TargetMeans t.names r.subject k → ⊥)
      → DecidesGood t request sheet₀ derivation₀ (Err refusal.Unnamed) sheet derivation₀
  -- 11, Denied: the subject has a meaning and no access
  denied : {r : Request} {sheet : List ℕ} {k : Key} → Ready t request sheet₀ derivation₀ r sheet → TargetMeans t.names r.subject k → Has (setting t r.asked) k verdict.denied
      → DecidesGood t request sheet₀ derivation₀ (Err refusal.Denied) sheet derivation₀
  -- 0, Granted: at the greatest depth, with a derivation at the buffer's start
  granted : {r : Request} {sheet : List ℕ} {k : Key} {d : Depth} {bytes : List ℕ} → Ready t request sheet₀ derivation₀ r sheet → TargetMeans t.names r.subject k
      → Has (setting t r.asked) k (verdict.granted d.0) → Hold t r d.0 bytes
      → DecidesGood t request sheet₀ derivation₀ (Ok (record { depth = d; length = length bytes })) sheet (placed derivation₀ 0 bytes)
  -- 13, Overrun: the derivation that was found is too long
  overrun : {r : Request} {sheet : List ℕ} {k : Key} {d : ℕ} → Ready t request sheet₀ derivation₀ r sheet → TargetMeans t.names r.subject k
      → Has (setting t r.asked) k (verdict.granted d) → (x : Shown t r d) → most_derivation < length (derivation_bytes x.derivation)
      → DecidesGood t request sheet₀ derivation₀ (Err refusal.Overrun) sheet derivation₀

-- THE ANSWER: the table's faults before all.
pub data Decides (table request sheet₀ derivation₀ : List ℕ) : Decided → List ℕ → List ℕ → Type 0 where
  -- 1 to 7
  bad_table : {f : Fault} → read_table table ≡ bad f → Decides table request sheet₀ derivation₀ (Err (refusal.Table f)) sheet₀ derivation₀
  good_table : {l : LaidTable} {end : ℕ} {a : Decided} {sheet derivation : List ℕ} → read_table table ≡ got l end → DecidesGood (table_of l) request sheet₀ derivation₀ a sheet derivation
      → Decides table request sheet₀ derivation₀ a sheet derivation

-- ---- what the promise leaves open
-- Answers with the sheet and the derivation after them are alike if they are equal, but for which derivation of the depth is handed out: with it its length,
-- and whether it is too long.
pub data Alike : Decided → List ℕ → List ℕ → Decided → List ℕ → List ℕ → Type 0 where
  equal : {a : Decided} {sheet derivation : List ℕ} → Alike a sheet derivation a sheet derivation
  another_shown : {d : Depth} {n m : ℕ} {sheet v w : List ℕ} → Alike (Ok (record { depth = d; length = n })) sheet v (Ok (record { depth = d; length = m })) sheet w
  first_fits : {d : Depth} {n : ℕ} {sheet v w : List ℕ} → Alike (Ok (record { depth = d; length = n })) sheet v (Err refusal.Overrun) sheet w
  second_fits : {d : Depth} {n : ℕ} {sheet v w : List ℕ} → Alike (Err refusal.Overrun) sheet v (Ok (record { depth = d; length = n })) sheet w
