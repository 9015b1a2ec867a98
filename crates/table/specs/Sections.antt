-- What whole tables are made of: a version, then sections, each a count and so many records.
use Rattle.std.specs.Prelude.{List, [], ℕ, eqb, leb, length}
use Rattle.rules.specs.Choice.{pick}
use Rattle.records.specs.Parsed.{Parsed, got, bad, Reader, fault_at, ◌⟫◌}
use Rattle.records.specs.Fields.{tested, field}
use Rattle.records.specs.Many.{many}
use Rattle.records.specs.declared.faults.Kind.TheVariants as kind
use Rattle.table.specs.declared.loading.Section.{Section}

unfoldable pub version : ℕ → Reader ℕ
version v = tested kind.Version (λ n. eqb n v)

-- The records of a section, and where the first begins.
pub record Part (A : Type 0) : Type 0 where
  pub records : List A
  pub first : ℕ

-- The count is judged before any record is read.
unfoldable pub section : {A : Type 0} → ℕ → (List A → Reader A) → Reader (Part A)
section most P s at = field 0 most s at ⟫ λ n first. many P n [] s first ⟫ λ l at. got (record { records = l; first = first }) at

-- All of the bytes: Long before all else, and Extra at the first spare byte.
unfoldable pub all_of : {A : Type 0} → ℕ → Reader A → List ℕ → Parsed A
all_of most P s = pick (leb (length s) most) (P s 0 ⟫ λ x at. pick (eqb at (length s)) (got x at) (bad (fault_at kind.Extra at))) (bad (fault_at kind.Long 0))

-- ---- as code answers
abbrev pub section_of : {A : Type 0} → Part A → Section
section_of p = record { count = length p.records; first = p.first }
