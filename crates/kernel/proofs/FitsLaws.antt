-- The values of every answer that is promised fit in 32 bits.
use mathlib.Core.Path.{◌≡◌}
use mathlib.Core.List.{List}
use mathlib.Core.Option.{some}
use Prim.Native.Nat.{ℕ, ◌<◌, ◌≤◌}
use native.Mathlib.Omega.{arith}
use lib.ListN.{length}
use Rattle.rules.specs.Tables.{Table}
use Rattle.wire.specs.Number.{Bytes}
use Rattle.records.specs.DerivationBytes.{Laid, derivation_fields, read_derivation, most_derivation}
use Rattle.records.specs.declared.faults.Fault.{Fault}
use Rattle.records.proofs.RequestsForm.{whole_form}
use Rattle.checker.specs.Promise as checks
use Rattle.checker.specs.Promise.{Checked}
use Rattle.decision.specs.Promise as decides
use Rattle.decision.specs.Promise.{Decided}
use Rattle.keytable.specs.Deciding as by_keys
use Rattle.keytable.specs.Deciding.{KeyAnswer}
use Rattle.translation.specs.Promise as translates
use Rattle.translation.specs.Promise.{Translated}
use Rattle.translation.proofs.Theorems.{translation_loads}
use Rattle.kernel.specs.Answers.{bare, succeeded, of_fault, of_decided, of_checked, of_translated, of_key_answer, Fits}
use Rattle.kernel.proofs.PlacesLaws.{table_fault, key_table_fault}

pub fault_fits : (e : Fault) → e.place.offset ≤ 32768 → Fits (of_fault e)
fault_fits e h = record { offset = omega (arith, h); length = omega arith }

bare_fits : (n : ℕ) → Fits (bare n)
bare_fits n = record { offset = omega arith; length = omega arith }

short_fits : (d n : ℕ) → n < 32768 → Fits (succeeded d n)
short_fits d n h = record { offset = omega arith; length = omega (arith, h) }

pub derivation_fits : (s : List ℕ) (l : Laid) → read_derivation s ≡ some l → length s ≤ most_derivation
unfolding read_derivation
derivation_fits s l e = (whole_form most_derivation derivation_fields s l e).0

-- ---- the decision
decided_good : {t : Table} {request sheet₀ derivation₀ : List ℕ} {a : Decided} {sheet derivation : List ℕ} → decides.DecidesGood t request sheet₀ derivation₀ a sheet derivation → Fits (of_decided a)
decided_good (decides.bad_request e) = bare_fits _
decided_good (decides.room e h) = bare_fits _
decided_good (decides.unnamed ready n) = bare_fits _
decided_good (decides.denied ready m h) = bare_fits _
decided_good (decides.granted {bytes = bytes} ready m h holds) = short_fits _ _ (omega (arith, derivation_fits bytes holds.laid holds.read))
decided_good (decides.overrun ready m h x l) = bare_fits _

pub decided_fits : {table request sheet₀ derivation₀ : List ℕ} {a : Decided} {sheet derivation : List ℕ} → decides.Decides table request sheet₀ derivation₀ a sheet derivation → Fits (of_decided a)
decided_fits {table = table} (decides.bad_table {f = f} e) = fault_fits f (table_fault table f e)
decided_fits (decides.good_table e h) = decided_good h

-- ---- the checker
checked_good : {t : Table} {request derivation : List ℕ} {a : Checked} → checks.ChecksGood t request derivation a → Fits (of_checked a)
checked_good (checks.bad_request e) = bare_fits _
checked_good (checks.not_derivation e n) = bare_fits _
checked_good (checks.accepted e r h) = short_fits _ 0 (omega arith)

pub checked_fits : {table request derivation : List ℕ} {a : Checked} → checks.Checks table request derivation a → Fits (of_checked a)
checked_fits {table = table} (checks.bad_table {f = f} e) = fault_fits f (table_fault table f e)
checked_fits (checks.good_table e h) = checked_good h

-- ---- the translation
pub translated_fits : {table before : List ℕ} {a : Translated} {after : List ℕ} → Bytes table → translates.Answers table before a after → Fits (of_translated a)
translated_fits {table = table} bytes (translates.bad_table {f = f} e) = fault_fits f (table_fault table f e)
translated_fits bytes (translates.room e h) = bare_fits _
translated_fits {table = table} {before = before} bytes (translates.done e r k) = short_fits 0 _ (omega (arith, (translation_loads table before bytes _ _ (translates.done e r k)).short))

-- ---- the decision over a key table
pub key_answer_fits : {table request : List ℕ} {a : KeyAnswer} → by_keys.KeyDecides table request a → Fits (of_key_answer a)
key_answer_fits {table = table} (by_keys.fault {e = f} e) = fault_fits f (omega (arith, key_table_fault table f e))
key_answer_fits (by_keys.request e h) = bare_fits _
key_answer_fits (by_keys.denied e h d) = bare_fits _
key_answer_fits (by_keys.granted e h d) = short_fits _ 0 (omega arith)
