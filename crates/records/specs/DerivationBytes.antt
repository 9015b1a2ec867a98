-- Derivation: count of binding numbers, these numbers, none twice; count of the chain (1 to 16), one access record number, then delegation numbers.
-- At most 512 bytes.
use Rattle.std.specs.Prelude.{List, [], ◌++◌, ℕ, suc, ◌-◌, ◌<◌, ◌≤◌, length}
use Rattle.std.proofs.Math.Option.{Option}
use Rattle.rules.specs.Choice.{pick}
use Rattle.rules.specs.Lists.{At, NoneTwice}
use Rattle.rules.specs.Depths.{top}
use Rattle.rules.specs.Derivations.{Derivation}
use Rattle.rules.specs.Ranges.{most_bindings, most_accesses, most_delegations}
use Rattle.wire.specs.Number.{bytes_of}
use Rattle.records.specs.Parsed.{got, bad, Reader, fault_at, ◌⟫◌}
use Rattle.records.specs.Fields.{field}
use Rattle.records.specs.Rows.{is_among}
use Rattle.records.specs.Many.{many, many_bytes}
use Rattle.records.specs.Requests.{whole}
use Rattle.records.specs.declared.faults.Kind.TheVariants as kind
use Rattle.records.specs.declared.derivations.Parts.{Parts}

abbrev pub most_derivation : ℕ
most_derivation = 512

-- A binding number, which is not one of the earlier.
abbrev pub listed_number : List ℕ → Reader ℕ
listed_number earlier s at = field 0 (most_bindings - 1) s at ⟫ λ v next. pick (is_among earlier v) (bad (fault_at kind.Twice at)) (got v next)

abbrev pub chain_number : List ℕ → Reader ℕ
chain_number earlier = field 0 (most_delegations - 1)

-- A derivation that the bytes can hold.
pub record GoodDerivation (v : Derivation) : Type 0 where
  pub few : length v.bindings ≤ most_bindings
  pub bindings : (i b : ℕ) → At v.bindings i b → b < most_bindings
  pub none_twice : NoneTwice v.bindings
  pub access : v.access < most_accesses
  pub short : length v.delegations ≤ top
  pub delegations : (j d : ℕ) → At v.delegations j d → d < most_delegations

-- A derivation, with the places of its first binding number and of its access record number.
pub record Laid : Type 0 where
  pub derivation : Derivation
  pub first : ℕ
  pub chain : ℕ

unfoldable pub derivation_fields : Reader Laid
derivation_fields s at =
    field 0 most_bindings s at ⟫ λ n first.
    many listed_number n [] s first ⟫ λ bindings at.
    field 1 (suc top) s at ⟫ λ m chain.
    field 0 (most_accesses - 1) s chain ⟫ λ access at.
    many chain_number (m - 1) [] s at ⟫ λ delegations at.
    got (record { derivation = record { bindings = bindings; access = access; delegations = delegations }; first = first; chain = chain }) at

-- THE DERIVATION that the bytes hold, or nothing.
unfoldable pub read_derivation : List ℕ → Option Laid
read_derivation s = whole most_derivation derivation_fields s

-- ---- its bytes
abbrev pub chain_bytes : ℕ → List ℕ → List ℕ
chain_bytes access delegations = bytes_of (suc (length delegations)) ++ (bytes_of access ++ many_bytes bytes_of delegations)

abbrev pub derivation_bytes : Derivation → List ℕ
derivation_bytes v = (bytes_of (length v.bindings) ++ many_bytes bytes_of v.bindings) ++ chain_bytes v.access v.delegations

-- ---- as code answers
abbrev pub parts_of : Laid → Parts
parts_of l = record { bindings = length l.derivation.bindings; first = l.first; delegations = length l.derivation.delegations; chain = l.chain }
