-- What a host is told was written stands within the buffer that it lent.
use mathlib.Core.Path.{ap}
use mathlib.Core.List.{List}
use Prim.Native.Nat.{ℕ, ◌≤◌}
use native.Mathlib.Omega.{arith}
use lib.ListN.{length}
use Rattle.rules.specs.Tables.{Table}
use Rattle.wire.specs.Number.{Bytes}
use Rattle.decision.specs.Promise as decides
use Rattle.decision.specs.Promise.{Decided}
use Rattle.translation.specs.Promise as translates
use Rattle.translation.specs.Promise.{Translated}
use Rattle.translation.proofs.Theorems.{translation_loads}
use Rattle.kernel.specs.Answers.{of_decided, of_translated}
use Rattle.kernel.specs.Promises.{TellsDecision, TellsTranslation}
use Rattle.kernel.specs.declared.answers.Answer.{Answer}
use Rattle.kernel.proofs.FitsLaws.{derivation_fits}

-- ---- a derivation
good_written : {t : Table} {request sheet₀ derivation₀ : List ℕ} {a : Decided} {sheet derivation : List ℕ} → decides.DecidesGood t request sheet₀ derivation₀ a sheet derivation
    → (of_decided a).length ≤ length derivation₀
good_written (decides.bad_request e) = omega arith
good_written (decides.room e h) = omega arith
good_written (decides.unnamed ready n) = omega arith
good_written (decides.denied ready m h) = omega arith
good_written (decides.granted {bytes = bytes} ready m h holds) = omega (arith, derivation_fits bytes holds.laid holds.read, ready.room_for_derivation)
good_written (decides.overrun ready m h x l) = omega arith

decided_written : {table request sheet₀ derivation₀ : List ℕ} {a : Decided} {sheet derivation : List ℕ} → decides.Decides table request sheet₀ derivation₀ a sheet derivation
    → (of_decided a).length ≤ length derivation₀
decided_written (decides.bad_table e) = omega arith
decided_written (decides.good_table e h) = good_written h

pub derivation_written : {table request sheet₀ derivation₀ sheet derivation : List ℕ} {r : Answer} → TellsDecision table request sheet₀ derivation₀ r sheet derivation → r.length ≤ length derivation₀
derivation_written h = omega (arith, decided_written h.promised, ap (λ (x : Answer). x.length) h.told)

-- ---- a key table
translated_written : {table before : List ℕ} {a : Translated} {after : List ℕ} → Bytes table → translates.Answers table before a after → (of_translated a).length ≤ length before
translated_written bytes (translates.bad_table e) = omega arith
translated_written bytes (translates.room e h) = omega arith
translated_written {table = table} {before = before} bytes (translates.done e r k) = omega (arith, (translation_loads table before bytes _ _ (translates.done e r k)).short, r)

pub key_table_written : {table before after : List ℕ} {r : Answer} → Bytes table → TellsTranslation table before r after → r.length ≤ length before
key_table_written bytes h = omega (arith, translated_written bytes h.promised, ap (λ (x : Answer). x.length) h.told)
