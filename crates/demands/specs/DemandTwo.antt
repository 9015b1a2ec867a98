-- DEMAND 2. Given room, an accepted request whose subject has a meaning is granted exactly if the published rules derive it, at the greatest depth they derive.
-- Each grant brings a derivation that the separate checker accepts at that depth; the checker accepts exactly the derivations that hold in the tables it is shown.
use Rattle.std.specs.Prelude.{Ok, ◌≡◌, List, ◌↔◌, ℕ, ◌≤◌, length, take, Err}
use Rattle.std.proofs.Math.Option.{some}
use Rattle.rules.specs.Tables.{Request}
use Rattle.rules.specs.Names.{TargetMeans}
use Rattle.rules.specs.Derivations.{Holds}
use Rattle.rules.specs.Verdicts.{Grants}
use Rattle.rules.specs.declared.Key.{Key}
use Rattle.rules.specs.declared.Depth.{Depth}
use Rattle.wire.specs.Number.{Bytes}
use Rattle.records.specs.Parsed.{got}
use Rattle.records.specs.Requests.{read_request}
use Rattle.records.specs.DerivationBytes.{Laid, read_derivation, most_derivation}
use Rattle.table.specs.ReadTable.{Laid as LaidTable, table_of, read_table}
use Rattle.checker.specs.Promise.{Checked, Checks}
use Rattle.decision.specs.Promise.{sheet_size, Decides, Decided}
use Rattle.decision.specs.declared.Refusal.TheVariants as undecided

-- The table and the request are accepted, and the subject has a meaning.
pub record Accepted (table request : List ℕ) : Type 0 where
  pub laid : LaidTable
  pub end : ℕ
  pub table' : read_table table ≡ got laid end
  pub asked : Request
  pub request' : read_request (length (table_of laid).names.spaces) request ≡ some asked
  pub key : Key
  pub named : TargetMeans (table_of laid).names asked.subject key

-- There is room: a sheet of 256 numbers, a derivation of 512 bytes, and the answer is not 13.
pub record Room (sheet derivation : List ℕ) (a : Decided) : Type 0 where
  pub sheet' : sheet_size ≤ length sheet
  pub derivation' : most_derivation ≤ length derivation
  pub fits : a ≡ Err undecided.Overrun → ⊥

-- Granted exactly if the rules derive it: a grant's depth is one that they derive, and they derive none greater.
pub record GrantedExactly (table request : List ℕ) (x : Accepted table request) (a : Decided) : Type 0 where
  pub derived : (d : Depth) (n : ℕ) → a ≡ Ok (record { depth = d; length = n }) → Grants (table_of x.laid) x.asked d.0
  pub greatest : (d : Depth) (n : ℕ) → a ≡ Ok (record { depth = d; length = n }) → (e : ℕ) → Grants (table_of x.laid) x.asked e → e ≤ d.0
  pub granted : (e : ℕ) → Grants (table_of x.laid) x.asked e → (d : Depth) × (n : ℕ) × (a ≡ Ok (record { depth = d; length = n }))
  pub denied : (a ≡ Err undecided.Denied) ↔ ((e : ℕ) → Grants (table_of x.laid) x.asked e → ⊥)

-- The derivation holds at the depth, by the tables that are shown.
pub record HoldsHere (table request derivation : List ℕ) (d : ℕ) : Type 0 where
  pub laid : LaidTable
  pub end : ℕ
  pub table' : read_table table ≡ got laid end
  pub asked : Request
  pub request' : read_request (length (table_of laid).names.spaces) request ≡ some asked
  pub shown : Laid
  pub derivation' : read_derivation derivation ≡ some shown
  pub holds : Holds (table_of laid) asked shown.derivation d

pub record DemandTwo : Type 0 where
  pub exactly : (table request sheet₀ derivation₀ sheet derivation : List ℕ) (a : Decided) → Bytes table → (x : Accepted table request) → Decides table request sheet₀ derivation₀ a sheet derivation
      → Room sheet₀ derivation₀ a → GrantedExactly table request x a
  -- What the decision wrote is accepted by the checker at the same depth.
  pub written : (table request sheet₀ derivation₀ sheet derivation : List ℕ) (d : Depth) (n : ℕ) → Decides table request sheet₀ derivation₀ (Ok (record { depth = d; length = n })) sheet derivation
      → Checks table request (take n derivation) (Ok d)
  -- Accepted is exactly what holds in the table that is shown, wherever the derivation comes from.
  pub accepted : (table request derivation : List ℕ) (a : Checked) (d : Depth) → Checks table request derivation a → (a ≡ Ok d) ↔ HoldsHere table request derivation d.0
