-- What a host may rely on: a promise fixes the record that it is told, and 0 is told of success alone.
use mathlib.Core.Path.{◌≡◌, refl, sym, ◌∙◌, ap}
use mathlib.Core.List.{List}
use Prim.Native.Nat.{ℕ}
use native.Mathlib.Omega.{arith}
use Rattle.std.specs.Prelude.{Ok, Err}
use Rattle.rules.specs.declared.Depth.{Depth}
use Rattle.wire.specs.Number.{Bytes}
use Rattle.records.specs.declared.faults.Kind.{Kind}
use Rattle.records.specs.declared.faults.Kind.TheVariants as kind
use Rattle.checker.specs.Promise.{Checked}
use Rattle.checker.specs.declared.Refusal.TheVariants as not_checked
use Rattle.checker.proofs.Theorems.{checks_one}
use Rattle.decision.specs.Promise.{Decided, Alike}
use Rattle.decision.specs.declared.Refusal.TheVariants as undecided
use Rattle.decision.proofs.Theorems.{decision_one}
use Rattle.keytable.specs.Deciding.{KeyAnswer}
use Rattle.keytable.specs.declared.KeyRefusal.TheVariants as by_keys
use Rattle.keytable.proofs.Theorems.{key_decision_one}
use Rattle.translation.proofs.Theorems.{translation_one}
use Rattle.kernel.specs.Answers.{fault_number, of_decided, of_checked, of_translated, of_key_answer}
use Rattle.kernel.specs.Promises.{TellsDecision, TellsCheck, TellsTranslation, TellsKeyDecision}
use Rattle.kernel.specs.declared.answers.Answer.{Answer}

-- ---- TWO RECORDS THAT MEET A PROMISE ARE EQUAL, and so are the buffers. For the decision: all but which derivation of the greatest depth is handed out.
pub decision_told_one : (table request sheet₀ derivation₀ : List ℕ) → Bytes table → (r r' : Answer) (sheet sheet' derivation derivation' : List ℕ)
    → (x : TellsDecision table request sheet₀ derivation₀ r sheet derivation) (y : TellsDecision table request sheet₀ derivation₀ r' sheet' derivation')
    → Alike x.answer sheet derivation y.answer sheet' derivation'
decision_told_one table request sheet₀ derivation₀ bytes r r' sheet sheet' derivation derivation' x y = decision_one table request sheet₀ derivation₀ bytes x.promised y.promised

pub check_told_one : (table request derivation : List ℕ) (r r' : Answer) → TellsCheck table request derivation r → TellsCheck table request derivation r' → r ≡ r'
check_told_one table request derivation r r' x y = x.told ∙ ap of_checked (checks_one table request derivation x.promised y.promised) ∙ sym y.told

pub translation_told_one : (table before : List ℕ) → Bytes table → (r r' : Answer) (after after' : List ℕ) → TellsTranslation table before r after → TellsTranslation table before r' after'
    → (r ≡ r') × (after ≡ after')
translation_told_one table before bytes r r' after after' x y =
    let w = translation_one table before bytes x.promised y.promised in
    (x.told ∙ ap of_translated w.0 ∙ sym y.told, w.1)

pub key_decision_told_one : (table request : List ℕ) (r r' : Answer) → TellsKeyDecision table request r → TellsKeyDecision table request r' → r ≡ r'
key_decision_told_one table request r r' x y = x.told ∙ ap of_key_answer (key_decision_one x.promised y.promised) ∙ sym y.told

-- ---- 0 IS TOLD OF SUCCESS ALONE
fault_is_not_zero : (k : Kind) → fault_number k ≡ 0 → ⊥
fault_is_not_zero kind.Long e = absurd (omega (arith, e))
fault_is_not_zero kind.Cut e = absurd (omega (arith, e))
fault_is_not_zero kind.Number e = absurd (omega (arith, e))
fault_is_not_zero kind.Range e = absurd (omega (arith, e))
fault_is_not_zero kind.Twice e = absurd (omega (arith, e))
fault_is_not_zero kind.Extra e = absurd (omega (arith, e))
fault_is_not_zero kind.Version e = absurd (omega (arith, e))

pub zero_is_granted : (a : Decided) → (of_decided a).number ≡ 0 → (d : Depth) × (n : ℕ) × (a ≡ Ok (record { depth = d; length = n }))
zero_is_granted (Ok g) e = (g.depth, g.length, refl)
zero_is_granted (Err (undecided.Table f)) e = absurd (fault_is_not_zero f.kind e)
zero_is_granted (Err undecided.Request) e = absurd (omega (arith, e))
zero_is_granted (Err undecided.Room) e = absurd (omega (arith, e))
zero_is_granted (Err undecided.Unnamed) e = absurd (omega (arith, e))
zero_is_granted (Err undecided.Denied) e = absurd (omega (arith, e))
zero_is_granted (Err undecided.Overrun) e = absurd (omega (arith, e))

pub zero_is_accepted : (a : Checked) → (of_checked a).number ≡ 0 → (d : Depth) × (a ≡ Ok d)
zero_is_accepted (Ok d) e = (d, refl)
zero_is_accepted (Err (not_checked.Table f)) e = absurd (fault_is_not_zero f.kind e)
zero_is_accepted (Err not_checked.Request) e = absurd (omega (arith, e))
zero_is_accepted (Err not_checked.Derivation) e = absurd (omega (arith, e))

pub zero_is_granted_by_keys : (a : KeyAnswer) → (of_key_answer a).number ≡ 0 → (d : Depth) × (a ≡ Ok d)
zero_is_granted_by_keys (Ok d) e = (d, refl)
zero_is_granted_by_keys (Err (by_keys.Table f)) e = absurd (fault_is_not_zero f.kind e)
zero_is_granted_by_keys (Err by_keys.Request) e = absurd (omega (arith, e))
zero_is_granted_by_keys (Err by_keys.Denied) e = absurd (omega (arith, e))
