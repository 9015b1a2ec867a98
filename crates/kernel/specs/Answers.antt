-- THE REVIEWER'S LIST OF ANSWERS: the number and the values of each. A number that an answer does not carry is 0.
use Rattle.std.specs.Prelude.{ℕ, ◌<◌, ◌^◌, Ok, Err}
use Rattle.records.specs.declared.faults.Kind.{Kind}
use Rattle.records.specs.declared.faults.Kind.TheVariants as kind
use Rattle.records.specs.declared.faults.Fault.{Fault}
use Rattle.decision.specs.Promise.{Decided}
use Rattle.decision.specs.declared.Refusal.TheVariants as undecided
use Rattle.checker.specs.Promise.{Checked}
use Rattle.checker.specs.declared.Refusal.TheVariants as not_checked
use Rattle.translation.specs.Promise.{Translated}
use Rattle.translation.specs.declared.Refusal.TheVariants as not_translated
use Rattle.keytable.specs.Deciding.{KeyAnswer}
use Rattle.keytable.specs.declared.KeyRefusal.TheVariants as by_keys
use Rattle.kernel.specs.declared.answers.Answer.{Answer}

-- ---- the numbers
-- 0: granted or accepted, or a finished translation.
abbrev pub done : ℕ
done = 0

-- 1 to 7: what is wrong with a table or a key table.
abbrev pub fault_number : Kind → ℕ
fault_number kind.Long = 1
fault_number kind.Cut = 2
fault_number kind.Number = 3
fault_number kind.Range = 4
fault_number kind.Twice = 5
fault_number kind.Extra = 6
fault_number kind.Version = 7

-- 8, Request: any fault in the request's bytes, its space numbers against this table included.
abbrev pub wrong_request : ℕ
wrong_request = 8

-- 9, Room: a lent output is short.
abbrev pub room : ℕ
room = 9

-- 10, Unnamed: the subject's name has no meaning.
abbrev pub unnamed : ℕ
unnamed = 10

-- 11, Denied: the subject has a meaning, no access.
abbrev pub denied : ℕ
denied = 11

-- 12, Not a derivation: malformed, or does not hold.
abbrev pub not_a_derivation : ℕ
not_a_derivation = 12

-- 13, Overrun: the derivation found does not fit in 512 bytes.
abbrev pub overrun : ℕ
overrun = 13

-- ---- the answers
-- A success, with the depth and the length that it carries.
abbrev pub succeeded : ℕ → ℕ → Answer
succeeded d n = record { number = done; offset = 0; depth = d; length = n }

-- A refusal that carries nothing.
abbrev pub bare : ℕ → Answer
bare n = record { number = n; offset = 0; depth = 0; length = 0 }

-- A fault carries its offset.
abbrev pub of_fault : Fault → Answer
of_fault e = record { number = fault_number e.kind; offset = e.place.offset; depth = 0; length = 0 }

-- The decision: a grant carries its depth and the derivation's length.
abbrev pub of_decided : Decided → Answer
of_decided (Ok g) = succeeded g.depth.0 g.length
of_decided (Err (undecided.Table e)) = of_fault e
of_decided (Err undecided.Request) = bare wrong_request
of_decided (Err undecided.Room) = bare room
of_decided (Err undecided.Unnamed) = bare unnamed
of_decided (Err undecided.Denied) = bare denied
of_decided (Err undecided.Overrun) = bare overrun

-- The checker: an acceptance carries its depth.
abbrev pub of_checked : Checked → Answer
of_checked (Ok d) = succeeded d.0 0
of_checked (Err (not_checked.Table e)) = of_fault e
of_checked (Err not_checked.Request) = bare wrong_request
of_checked (Err not_checked.Derivation) = bare not_a_derivation

-- The translation: a finished one carries its length.
abbrev pub of_translated : Translated → Answer
of_translated (Ok n) = succeeded 0 n
of_translated (Err (not_translated.Table e)) = of_fault e
of_translated (Err not_translated.Room) = bare room

-- The decision over a key table: a grant carries its depth alone.
abbrev pub of_key_answer : KeyAnswer → Answer
of_key_answer (Ok d) = succeeded d.0 0
of_key_answer (Err (by_keys.Table e)) = of_fault e
of_key_answer (Err by_keys.Request) = bare wrong_request
of_key_answer (Err by_keys.Denied) = bare denied

-- ---- as code holds them
-- The values fit in 32 bits.
pub record Fits (a : Answer) : Type 0 where
  pub offset : a.offset < 2 ^ 32
  pub length : a.length < 2 ^ 32
