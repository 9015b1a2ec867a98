-- DEMAND 1. Every table, request and derivation, however damaged, gets one of the listed answers. Nothing is assumed to have been checked earlier. Each refusal
-- has its number and its place in the order, and what it leaves in each buffer is fixed.
use Rattle.std.specs.Prelude.{◌≡◌, List, ℕ, ◌≤◌}
use Rattle.wire.specs.Number.{Bytes}
use Rattle.checker.specs.Promise.{Checked, Checks}
use Rattle.decision.specs.Promise.{Decides, Alike, Decided}
use Rattle.translation.specs.Promise.{Translated, Answers}
use Rattle.keytable.specs.Deciding.{KeyAnswer, KeyDecides}
use Rattle.kernel.specs.Answers.{of_decided, of_checked, of_translated, of_key_answer}

-- The decision has an answer of the list; any other is alike: equal but for which derivation of the greatest depth is handed out. No refusal touches the
-- derivation, and 1 to 9 do not touch the sheet.
pub record DecisionFixed (table request sheet₀ derivation₀ : List ℕ) : Type 0 where
  pub answer : Decided
  pub sheet : List ℕ
  pub derivation : List ℕ
  pub promised : Decides table request sheet₀ derivation₀ answer sheet derivation
  pub listed : (of_decided answer).number ≤ 13
  pub only : (a : Decided) (x v : List ℕ) → Decides table request sheet₀ derivation₀ a x v → Alike answer sheet derivation a x v
  pub derivation_left : 1 ≤ (of_decided answer).number → derivation ≡ derivation₀
  pub sheet_left : 1 ≤ (of_decided answer).number → (of_decided answer).number ≤ 9 → sheet ≡ sheet₀

-- The checker has one answer, of the list. It is lent nothing to write to.
pub record CheckFixed (table request derivation : List ℕ) : Type 0 where
  pub answer : Checked
  pub promised : Checks table request derivation answer
  pub listed : (of_checked answer).number ≤ 12
  pub only : (a : Checked) → Checks table request derivation a → answer ≡ a

-- The translation has one answer, of the list, and leaves one buffer: a refusal the one that it was lent.
pub record TranslationFixed (table before : List ℕ) : Type 0 where
  pub answer : Translated
  pub after : List ℕ
  pub promised : Answers table before answer after
  pub listed : (of_translated answer).number ≤ 9
  pub only : (a : Translated) (x : List ℕ) → Answers table before a x → (answer ≡ a) × (after ≡ x)
  pub left : 1 ≤ (of_translated answer).number → after ≡ before

-- The decision over a key table has one answer, of the list. It is lent nothing to write to.
pub record KeyDecisionFixed (key_table key_request : List ℕ) : Type 0 where
  pub answer : KeyAnswer
  pub promised : KeyDecides key_table key_request answer
  pub listed : (of_key_answer answer).number ≤ 11
  pub only : (a : KeyAnswer) → KeyDecides key_table key_request a → answer ≡ a

-- For every byte string and every lent buffer.
pub record DemandOne : Type 0 where
  pub decision : (table request sheet derivation : List ℕ) → Bytes table → DecisionFixed table request sheet derivation
  pub check : (table request derivation : List ℕ) → Bytes table → CheckFixed table request derivation
  pub translation : (table buffer : List ℕ) → Bytes table → TranslationFixed table buffer
  pub key_decision : (key_table key_request : List ℕ) → Bytes key_table → KeyDecisionFixed key_table key_request
