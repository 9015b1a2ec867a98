-- Demand 1 is met.
use mathlib.Core.Path.{◌≡◌, refl}
use mathlib.Core.List.{List}
use Prim.Native.Nat.{ℕ, ◌≤◌}
use native.Mathlib.Omega.{arith}
use Rattle.std.specs.Prelude.{Ok, Err}
use Rattle.records.specs.declared.faults.Kind.{Kind}
use Rattle.records.specs.declared.faults.Kind.TheVariants as kind
use Rattle.rules.specs.Tables.{Table}
use Rattle.checker.specs.Promise.{Checked}
use Rattle.checker.specs.declared.Refusal.TheVariants as not_checked
use Rattle.checker.proofs.Theorems.{checks_one}
use Rattle.decision.specs.Promise.{DecidesGood, bad_request, room, unnamed, denied, granted, overrun, Decides, bad_table, good_table, Decided}
use Rattle.decision.specs.declared.Refusal.TheVariants as undecided
use Rattle.decision.proofs.Theorems.{decision_one}
use Rattle.keytable.specs.Deciding.{KeyAnswer}
use Rattle.keytable.specs.declared.KeyRefusal.TheVariants as key_refusal
use Rattle.keytable.proofs.Theorems.{key_decision_one}
use Rattle.translation.specs.Promise.{Translated, Answers}
use Rattle.translation.specs.Promise as answers
use Rattle.translation.specs.declared.Refusal.TheVariants as not_translated
use Rattle.translation.proofs.Theorems.{translation_one}
use Rattle.kernel.specs.Answers.{fault_number, of_decided, of_checked, of_translated, of_key_answer}
use Rattle.demands.specs.DemandOne.{DemandOne}
use Rattle.demands.proofs.ExistsLaws.{decides_something, checks_something, translates_something, key_decides_something}

-- ---- the numbers
fault_listed : (k : Kind) → fault_number k ≤ 7
fault_listed kind.Long = omega arith
fault_listed kind.Cut = omega arith
fault_listed kind.Number = omega arith
fault_listed kind.Range = omega arith
fault_listed kind.Twice = omega arith
fault_listed kind.Extra = omega arith
fault_listed kind.Version = omega arith

decided_listed : (a : Decided) → (of_decided a).number ≤ 13
decided_listed (Ok g) = omega arith
decided_listed (Err (undecided.Table e)) = omega (arith, fault_listed e.kind)
decided_listed (Err undecided.Request) = omega arith
decided_listed (Err undecided.Room) = omega arith
decided_listed (Err undecided.Unnamed) = omega arith
decided_listed (Err undecided.Denied) = omega arith
decided_listed (Err undecided.Overrun) = omega arith

checked_listed : (a : Checked) → (of_checked a).number ≤ 12
checked_listed (Ok d) = omega arith
checked_listed (Err (not_checked.Table e)) = omega (arith, fault_listed e.kind)
checked_listed (Err not_checked.Request) = omega arith
checked_listed (Err not_checked.Derivation) = omega arith

translated_listed : (a : Translated) → (of_translated a).number ≤ 9
translated_listed (Ok n) = omega arith
translated_listed (Err (not_translated.Table e)) = omega (arith, fault_listed e.kind)
translated_listed (Err not_translated.Room) = omega arith

key_listed : (a : KeyAnswer) → (of_key_answer a).number ≤ 11
key_listed (Ok d) = omega arith
key_listed (Err (key_refusal.Table e)) = omega (arith, fault_listed e.kind)
key_listed (Err key_refusal.Request) = omega arith
key_listed (Err key_refusal.Denied) = omega arith

-- ---- what refusals leave
derivation_left_lem : {t : Table} {request sheet₀ derivation₀ x v : List ℕ} {a : Decided} → DecidesGood t request sheet₀ derivation₀ a x v → 1 ≤ (of_decided a).number → v ≡ derivation₀
derivation_left_lem (bad_request e) h = refl
derivation_left_lem (room e f) h = refl
derivation_left_lem (unnamed p f) h = refl
derivation_left_lem (denied p m f) h = refl
derivation_left_lem (granted p m f x) h = absurd (omega (arith, h))
derivation_left_lem (overrun p m f x l) h = refl

sheet_left_lem : {t : Table} {request sheet₀ derivation₀ x v : List ℕ} {a : Decided} → DecidesGood t request sheet₀ derivation₀ a x v → 1 ≤ (of_decided a).number → (of_decided a).number ≤ 9 → x ≡ sheet₀
sheet_left_lem (bad_request e) h k = refl
sheet_left_lem (room e f) h k = refl
sheet_left_lem (unnamed p f) h k = absurd (omega (arith, k))
sheet_left_lem (denied p m f) h k = absurd (omega (arith, k))
sheet_left_lem (granted p m f x) h k = absurd (omega (arith, h))
sheet_left_lem (overrun p m f x l) h k = absurd (omega (arith, k))

derivation_stays : {table request sheet₀ derivation₀ x v : List ℕ} {a : Decided} → Decides table request sheet₀ derivation₀ a x v → 1 ≤ (of_decided a).number → v ≡ derivation₀
derivation_stays (bad_table e) h = refl
derivation_stays (good_table e w) h = derivation_left_lem w h

sheet_stays : {table request sheet₀ derivation₀ x v : List ℕ} {a : Decided} → Decides table request sheet₀ derivation₀ a x v → 1 ≤ (of_decided a).number → (of_decided a).number ≤ 9 → x ≡ sheet₀
sheet_stays (bad_table e) h k = refl
sheet_stays (good_table e w) h k = sheet_left_lem w h k

buffer_stays : {table before x : List ℕ} {a : Translated} → Answers table before a x → 1 ≤ (of_translated a).number → x ≡ before
buffer_stays (answers.bad_table e) h = refl
buffer_stays (answers.room e r) h = refl
buffer_stays (answers.done e r k) h = absurd (omega (arith, h))

-- DEMAND 1 IS MET.
pub demand_one : DemandOne
demand_one = record {
  decision = λ table request sheet derivation b.
      let w = decides_something table request sheet derivation b in
      record {
        answer = w.0;
        sheet = w.1;
        derivation = w.2;
        promised = w.3;
        listed = decided_listed w.0;
        only = λ a x v h. decision_one table request sheet derivation b w.3 h;
        derivation_left = derivation_stays w.3;
        sheet_left = sheet_stays w.3;
      };
  check = λ table request derivation b.
      let w = checks_something table request derivation b in
      record { answer = w.0; promised = w.1; listed = checked_listed w.0; only = λ a h. checks_one table request derivation w.1 h };
  translation = λ table buffer b.
      let w = translates_something table buffer b in
      record { answer = w.0; after = w.1; promised = w.2; listed = translated_listed w.0; only = λ a x h. translation_one table buffer b w.2 h; left = buffer_stays w.2 };
  key_decision = λ key_table key_request b.
      let w = key_decides_something key_table key_request b in
      record { answer = w.0; promised = w.1; listed = key_listed w.0; only = λ a h. key_decision_one w.1 h };
}
