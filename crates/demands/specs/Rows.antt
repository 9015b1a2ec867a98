-- P1 TO P10: the rows of the scope paper that are proved, over its bytes.
use Rattle.std.specs.Prelude.{Ok, ◌≡◌, ◌⊎◌, List, [], ◌∷◌, ℕ, ◌≤◌, length, take}
use Rattle.wire.specs.Placed.{placed}
use Rattle.records.specs.DerivationBytes.{most_derivation}
use Rattle.table.specs.ReadKeyTable.{most_key_table}
use Rattle.checker.specs.Promise.{Checked, Checks}
use Rattle.decision.specs.Promise.{sheet_size, Decides, Decided}
use Rattle.translation.specs.Promise.{Answers, Translated}
use Rattle.kernel.specs.Answers.{of_decided, of_checked}

-- The specimen table, T.
abbrev pub T : List ℕ
T =
    0x01 ∷ 0x03 ∷ 0x0a ∷ 0x14 ∷ 0x1e
    ∷ 0x06 ∷ 0x00 ∷ 0x01 ∷ 0x00 ∷ 0x14 ∷ 0x01 ∷ 0x02 ∷ 0x01 ∷ 0x02 ∷ 0x00 ∷ 0x00 ∷ 0x03 ∷ 0x01 ∷ 0x00 ∷ 0x02 ∷ 0x01 ∷ 0x02
    ∷ 0x02 ∷ 0x04 ∷ 0x00 ∷ 0x28 ∷ 0x00 ∷ 0x05 ∷ 0x01 ∷ 0x00 ∷ 0x01 ∷ 0x05 ∷ 0x01 ∷ 0x06 ∷ 0x00 ∷ 0x0a
    ∷ 0x02 ∷ 0x00 ∷ 0x07 ∷ 0x02 ∷ 0x01 ∷ 0x01 ∷ 0x01 ∷ 0x00 ∷ 0x07 ∷ 0x03 ∷ 0x01 ∷ 0x03 ∷ 0x00
    ∷ 0x01 ∷ 0x01 ∷ 0x01 ∷ 0x06 ∷ 0x07 ∷ 0x02 ∷ 0x02 ∷ 0x02 ∷ 0x04 ∷ 0x03 ∷ []

pub data Row : Type 0 where
  -- What the sheet begins with.
  sheet : List ℕ → Row
  -- A request over T: the number and the depth that the decision answers.
  decision : List ℕ → ℕ → ℕ → Row
  -- A request and a derivation over T: the number and the depth that the checker answers.
  check : List ℕ → List ℕ → ℕ → ℕ → Row
  -- A table, and the key table that it is translated to.
  translation : List ℕ → List ℕ → Row

-- What a row says of every answer that meets the promise, with room.
abbrev pub Says : Row → Type 0
Says (sheet s) = (request sheet₀ derivation₀ x v : List ℕ) (a : Decided) → Decides T request sheet₀ derivation₀ a x v → ((of_decided a).number ≡ 0) ⊎ (10 ≤ (of_decided a).number) → take (length s) x ≡ s
Says (decision request n d) = (sheet₀ derivation₀ x v : List ℕ) (a : Decided) → sheet_size ≤ length sheet₀ → most_derivation ≤ length derivation₀ → Decides T request sheet₀ derivation₀ a x v
    → ((of_decided a).number ≡ n) × ((of_decided a).depth ≡ d)
Says (check request derivation n d) = (a : Checked) → Checks T request derivation a → ((of_checked a).number ≡ n) × ((of_checked a).depth ≡ d)
Says (translation table key_table) = (before after : List ℕ) (a : Translated) → most_key_table ≤ length before → Answers table before a after
    → (a ≡ Ok (length key_table)) × (after ≡ placed before 0 key_table)

abbrev pub rows : List Row
rows =
    -- P1 Sheet: 20, 30, 30, 40, 0, 10.
    sheet (20 ∷ 30 ∷ 30 ∷ 40 ∷ 0 ∷ 10 ∷ [])
    -- P2 key 20, right 2: granted, depth 1. Derivation `01 00 01 00` is accepted.
    ∷ decision (0x00 ∷ 0x14 ∷ 0x00 ∷ 0x07 ∷ 0x02 ∷ []) 0 1
    ∷ check (0x00 ∷ 0x14 ∷ 0x00 ∷ 0x07 ∷ 0x02 ∷ []) (0x01 ∷ 0x00 ∷ 0x01 ∷ 0x00 ∷ []) 0 1
    -- P3 key 40, right 2: granted, depth 0. `04 00 01 03 05 02 00 00` is accepted.
    ∷ decision (0x00 ∷ 0x28 ∷ 0x00 ∷ 0x07 ∷ 0x02 ∷ []) 0 0
    ∷ check (0x00 ∷ 0x28 ∷ 0x00 ∷ 0x07 ∷ 0x02 ∷ []) (0x04 ∷ 0x00 ∷ 0x01 ∷ 0x03 ∷ 0x05 ∷ 0x02 ∷ 0x00 ∷ 0x00 ∷ []) 0 0
    -- P4 The same without binding 5, `03 00 01 03 02 00 00`: 12.
    ∷ check (0x00 ∷ 0x28 ∷ 0x00 ∷ 0x07 ∷ 0x02 ∷ []) (0x03 ∷ 0x00 ∷ 0x01 ∷ 0x03 ∷ 0x02 ∷ 0x00 ∷ 0x00 ∷ []) 12 0
    -- P5 key 40, right 3: Denied.
    ∷ decision (0x00 ∷ 0x28 ∷ 0x00 ∷ 0x07 ∷ 0x03 ∷ []) 11 0
    -- P6 subject path 3 in space 0, right 3: granted, depth 0.
    ∷ decision (0x01 ∷ 0x00 ∷ 0x01 ∷ 0x03 ∷ 0x00 ∷ 0x07 ∷ 0x03 ∷ []) 0 0
    -- P7 subject path 5 in space 0, right 3: Unnamed.
    ∷ decision (0x01 ∷ 0x00 ∷ 0x01 ∷ 0x05 ∷ 0x00 ∷ 0x07 ∷ 0x03 ∷ []) 10 0
    -- P8 key 10, right 2: Denied.
    ∷ decision (0x00 ∷ 0x0a ∷ 0x00 ∷ 0x07 ∷ 0x02 ∷ []) 11 0
    -- P9 Key table, 19 bytes: `00 02 0A 07 02 14 01 0A 07 03 1E 00 01 14 0A 07 02 28 03`.
    ∷ translation T (0x00 ∷ 0x02 ∷ 0x0a ∷ 0x07 ∷ 0x02 ∷ 0x14 ∷ 0x01 ∷ 0x0a ∷ 0x07 ∷ 0x03 ∷ 0x1e ∷ 0x00 ∷ 0x01 ∷ 0x14 ∷ 0x0a ∷ 0x07 ∷ 0x02 ∷ 0x28 ∷ 0x03 ∷ [])
    -- P10 `01 00 00 00 00` is a good table; its key table is `00 00 00`.
    ∷ translation (0x01 ∷ 0x00 ∷ 0x00 ∷ 0x00 ∷ 0x00 ∷ []) (0x00 ∷ 0x00 ∷ 0x00 ∷ [])
    ∷ []

abbrev pub AllSay : List Row → Type 0
AllSay [] = Unit {0}
AllSay (x ∷ l) = Says x × AllSay l
