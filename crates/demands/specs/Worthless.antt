-- Worthless builds, and the row that shuts each out: whatever meets the promises does not do what it does.
use Rattle.std.specs.Prelude.{Ok, ◌≡◌, List, [], ◌∷◌, ℕ, ◌≤◌, length}
use Rattle.records.specs.DerivationBytes.{most_derivation}
use Rattle.table.specs.ReadKeyTable.{most_key_table}
use Rattle.decision.specs.Promise.{sheet_size, Decides, Decided}
use Rattle.translation.specs.Promise.{Answers, Translated}
use Rattle.kernel.specs.Answers.{of_decided}
use Rattle.demands.specs.Rows.{T}

-- What the decision over T may answer to a request, with room.
abbrev pub Over : List ℕ → Decided → Type 0
Over request a = (sheet₀ : List ℕ) × (derivation₀ : List ℕ) × (x : List ℕ) × (v : List ℕ) × (sheet_size ≤ length sheet₀) × (most_derivation ≤ length derivation₀) × Decides T request sheet₀ derivation₀ a x v

pub record Worthless : Type 0 where
  -- Refuse all: P2's request is granted.
  pub refuse_all : (a : Decided) → Over (0x00 ∷ 0x14 ∷ 0x00 ∷ 0x07 ∷ 0x02 ∷ []) a → 1 ≤ (of_decided a).number → ⊥
  -- Answer alike always: P2's request and P5's have answers with different numbers.
  pub answer_alike : (a b : Decided) → Over (0x00 ∷ 0x14 ∷ 0x00 ∷ 0x07 ∷ 0x02 ∷ []) a → Over (0x00 ∷ 0x28 ∷ 0x00 ∷ 0x07 ∷ 0x03 ∷ []) b → (of_decided a).number ≡ (of_decided b).number → ⊥
  -- Skip later delegations: P3's request, which the access records alone do not give, is granted.
  pub skip_delegations : (a : Decided) → Over (0x00 ∷ 0x28 ∷ 0x00 ∷ 0x07 ∷ 0x02 ∷ []) a → 1 ≤ (of_decided a).number → ⊥
  -- Invent a depth: P2's grant is at depth 1 and no other.
  pub invent_depth : (a : Decided) → Over (0x00 ∷ 0x14 ∷ 0x00 ∷ 0x07 ∷ 0x02 ∷ []) a → ((of_decided a).depth ≡ 1 → ⊥) → ⊥
  -- An empty key table: T's is not three bytes long.
  pub empty_key_table : (before after : List ℕ) (a : Translated) → most_key_table ≤ length before → Answers T before a after → a ≡ Ok 3 → ⊥
