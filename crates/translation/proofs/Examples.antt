-- The two rows of the scope paper that a translation answers, by computation.
use mathlib.Core.Path.{◌≡◌, refl, sym, subst, subst₂}
use mathlib.Core.List.{List, [], ◌∷◌}
use mathlib.Core.Option.{bind}
use Prim.Native.Nat.{ℕ, ◌≤◌}
use lib.ListN.{length}
use Rattle.std.specs.Prelude.{Ok}
use Rattle.rules.specs.Names.{Means, opener}
use Rattle.rules.specs.Ranges.{Good}
use Rattle.rules.specs.Rounds.{find, opened, followed, target_key, filled_one}
use Rattle.rules.specs.Tables.{Table}
use Rattle.rules.specs.Translation.{access_keys, delegation_keys, Translates, translate}
use Rattle.rules.specs.Greatest.{teller}
use Rattle.rules.specs.Specimen.{specimen}
use Rattle.rules.proofs.GoodLaws.{is_good}
use Rattle.rules.proofs.VerdictsLaws.{translates}
use Rattle.wire.specs.Number.{groups_of}
use Rattle.wire.specs.Placed.{placed}
use Rattle.records.specs.Many.{many_bytes}
use Rattle.records.specs.Paths.{names_bytes}
use Rattle.table.specs.ReadTable.{table_bytes}
use Rattle.table.specs.ReadKeyTable.{most_key_table, key_table_bytes}
use Rattle.table.proofs.Theorems.{table_reads}
use Rattle.translation.specs.Promise.{Answers, done}

-- What is promised of a good table's bytes, with room for any key table.
answers_of : (t : Table) → Good t → (bytes key_bytes before : List ℕ) → table_bytes t ≡ bytes → key_table_bytes (translate (teller t) t) ≡ key_bytes → most_key_table ≤ length before
    → Answers bytes before (Ok (length key_bytes)) (placed before 0 key_bytes)
answers_of t good bytes key_bytes before b k h =
    subst₂ (λ (x y : List ℕ). Answers x before (Ok (length y)) (placed before 0 y)) b k
    (let w = table_reads t good in done w.1 h (subst (λ (u : Table). Translates (Means u.names) u (translate (teller t) t)) (sym w.2) (translates t good)))

-- P9 Key table, 19 bytes: `00 02 0A 07 02 14 01 0A 07 03 1E 00 01 14 0A 07 02 28 03`.
pub specimen_translated : (before : List ℕ) → most_key_table ≤ length before
    → Answers
    (0x01 ∷ 0x03 ∷ 0x0a ∷ 0x14 ∷ 0x1e ∷ 0x06 ∷ 0x00 ∷ 0x01 ∷ 0x00 ∷ 0x14 ∷ 0x01 ∷ 0x02 ∷ 0x01 ∷ 0x02 ∷ 0x00 ∷ 0x00 ∷ 0x03 ∷ 0x01 ∷ 0x00 ∷ 0x02 ∷ 0x01 ∷ 0x02 ∷ 0x02 ∷ 0x04 ∷ 0x00 ∷ 0x28 ∷ 0x00 ∷ 0x05 ∷ 0x01 ∷ 0x00 ∷ 0x01 ∷ 0x05 ∷ 0x01 ∷ 0x06 ∷ 0x00 ∷ 0x0a ∷ 0x02 ∷ 0x00 ∷ 0x07 ∷ 0x02 ∷ 0x01 ∷ 0x01 ∷ 0x01 ∷ 0x00 ∷ 0x07 ∷ 0x03 ∷ 0x01 ∷ 0x03 ∷ 0x00 ∷ 0x01 ∷ 0x01 ∷ 0x01 ∷ 0x06 ∷ 0x07 ∷ 0x02 ∷ 0x02 ∷ 0x02 ∷ 0x04 ∷ 0x03 ∷ [])
    before (Ok 19)
    (placed before 0 (0x00 ∷ 0x02 ∷ 0x0a ∷ 0x07 ∷ 0x02 ∷ 0x14 ∷ 0x01 ∷ 0x0a ∷ 0x07 ∷ 0x03 ∷ 0x1e ∷ 0x00 ∷ 0x01 ∷ 0x14 ∷ 0x0a ∷ 0x07 ∷ 0x02 ∷ 0x28 ∷ 0x03 ∷ []))
unfolding specimen opener find opened followed target_key filled_one access_keys delegation_keys bind groups_of many_bytes names_bytes table_bytes key_table_bytes
specimen_translated before h = answers_of specimen (is_good specimen refl) _ _ before refl refl h

-- P10 `01 00 00 00 00` is a good table; its key table is `00 00 00`.
abbrev empty : Table
empty = record { names = record { spaces = []; bindings = [] }; accesses = []; delegations = [] }

pub empty_translated : (before : List ℕ) → most_key_table ≤ length before
    → Answers (0x01 ∷ 0x00 ∷ 0x00 ∷ 0x00 ∷ 0x00 ∷ []) before (Ok 3) (placed before 0 (0x00 ∷ 0x00 ∷ 0x00 ∷ []))
unfolding groups_of many_bytes table_bytes key_table_bytes
empty_translated before h = answers_of empty (is_good empty refl) _ _ before refl refl h
