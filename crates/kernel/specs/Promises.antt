-- What each function of the interface promises: the record that a host gets is that of an answer which the part behind it promises,
-- for these bytes, with the lent buffers before and after.
use Rattle.std.specs.Prelude.{◌≡◌, List, ℕ}
use Rattle.checker.specs.Promise.{Checks, Checked}
use Rattle.decision.specs.Promise.{Decided, Decides}
use Rattle.keytable.specs.Deciding.{KeyDecides, KeyAnswer}
use Rattle.translation.specs.Promise.{Translated, Answers}
use Rattle.kernel.specs.Answers.{of_decided, of_checked, of_translated, of_key_answer}
use Rattle.kernel.specs.declared.answers.Answer.{Answer}

-- THE DECISION as a host gets it.
pub record TellsDecision (table request sheet₀ derivation₀ : List ℕ) (r : Answer) (sheet derivation : List ℕ) : Type 0 where
  pub answer : Decided
  pub promised : Decides table request sheet₀ derivation₀ answer sheet derivation
  pub told : r ≡ of_decided answer

-- THE CHECKER as a host gets it.
pub record TellsCheck (table request derivation : List ℕ) (r : Answer) : Type 0 where
  pub answer : Checked
  pub promised : Checks table request derivation answer
  pub told : r ≡ of_checked answer

-- THE TRANSLATION as a host gets it.
pub record TellsTranslation (table key_table₀ : List ℕ) (r : Answer) (key_table : List ℕ) : Type 0 where
  pub answer : Translated
  pub promised : Answers table key_table₀ answer key_table
  pub told : r ≡ of_translated answer

-- THE DECISION OVER A KEY TABLE as a host gets it.
pub record TellsKeyDecision (key_table key_request : List ℕ) (r : Answer) : Type 0 where
  pub answer : KeyAnswer
  pub promised : KeyDecides key_table key_request answer
  pub told : r ≡ of_key_answer answer
