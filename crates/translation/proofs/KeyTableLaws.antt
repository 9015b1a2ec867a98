-- The parts of a key table, written one behind the other: the version and the two sections.
use mathlib.Core.Path.{◌≡◌, sym, ap}
use mathlib.Core.List.{List, ◌++◌, append_assoc}
use Prim.Native.Nat.{ℕ, ◌+◌, ◌<◌, ◌≤◌}
use native.Mathlib.Omega.{arith}
use lib.ListN.{length, length-append}
use Rattle.rules.specs.Ranges.{Good}
use Rattle.wire.specs.Number.{bytes_of}
use Rattle.wire.specs.Placed.{placed}
use Rattle.records.specs.KeyRecords.{key_access_bytes, key_delegation_bytes}
use Rattle.records.proofs.WritingLaws.{Wrote, wrote_room, wrote_then, wrote_as}
use Rattle.table.specs.ReadTable.{table_at, section_bytes}
use Rattle.table.specs.ReadKeyTable.{most_key_table, key_table_bytes}
use Rattle.table.proofs.SizesLaws.{key_table_short}
use Rattle.translation.specs.Kinds.{Kind, KindLaws}
use Rattle.translation.specs.Becoming.{key_table_at}
use Rattle.translation.proofs.OrderLaws.{order_short}
use Rattle.translation.proofs.GoodLaws.{key_table_translates, key_table_good}

-- Of each kind it has few records.
pub few_written : (k : Kind) → KindLaws k → (s : List ℕ) → Good (table_at s) → length (k.key_records (key_table_at s)) < 16384
few_written k laws s good = omega (arith, order_short (k.ToKeys (table_at s)) (laws.order (table_at s) (key_table_at s) (key_table_translates s good)), laws.few (table_at s) good)

-- It fits.
pub key_table_fits : (s : List ℕ) → Good (table_at s) → (n : ℕ) → most_key_table ≤ n → length (key_table_bytes (key_table_at s)) ≤ n
key_table_fits s good n h = omega (arith, key_table_short (key_table_at s) (key_table_good s good))

module _ (s out : List ℕ) (room : length (key_table_bytes (key_table_at s)) ≤ length out) where
  abbrev access_section : List ℕ
  access_section = section_bytes key_access_bytes (key_table_at s).accesses

  abbrev delegation_section : List ℕ
  delegation_section = section_bytes key_delegation_bytes (key_table_at s).delegations

  parts : key_table_bytes (key_table_at s) ≡ (bytes_of 0 ++ access_section) ++ delegation_section
  unfolding key_table_bytes
  parts = sym (append_assoc (bytes_of 0) access_section delegation_section)

  front : length (bytes_of 0 ++ access_section) + length delegation_section ≤ length out
  front = omega (arith, room, ap length parts, length-append (bytes_of 0 ++ access_section) delegation_section)

  begin : length (bytes_of 0) + length access_section ≤ length out
  begin = omega (arith, front, length-append (bytes_of 0) access_section)

  pub version_room : length (bytes_of 0) ≤ length out
  version_room = omega (arith, begin)

  module _ (n₁ : ℕ) (o₁ : List ℕ) (w₁ : Wrote out (bytes_of 0) n₁ o₁) where
    pub accesses_room : n₁ + length access_section ≤ length o₁
    accesses_room = wrote_room out (bytes_of 0) access_section o₁ n₁ w₁ begin

    module _ (n₂ : ℕ) (o₂ : List ℕ) (p₂ : (n₂ ≡ n₁ + length access_section) × (o₂ ≡ placed o₁ n₁ access_section)) where
      w₂ : Wrote out (bytes_of 0 ++ access_section) n₂ o₂
      w₂ = wrote_then out (bytes_of 0) access_section o₁ o₂ n₁ n₂ w₁ begin p₂

      pub delegations_room : n₂ + length delegation_section ≤ length o₂
      delegations_room = wrote_room out (bytes_of 0 ++ access_section) delegation_section o₂ n₂ w₂ front

      pub key_table_written : (n₃ : ℕ) (o₃ : List ℕ) → (n₃ ≡ n₂ + length delegation_section) × (o₃ ≡ placed o₂ n₂ delegation_section) → Wrote out (key_table_bytes (key_table_at s)) n₃ o₃
      key_table_written n₃ o₃ p₃ =
          wrote_as out ((bytes_of 0 ++ access_section) ++ delegation_section) (key_table_bytes (key_table_at s)) o₃ n₃ (sym parts)
          (wrote_then out (bytes_of 0 ++ access_section) delegation_section o₂ o₃ n₂ n₃ w₂ front p₃)
