-- The translation's promise fixes its answer and the buffer; and what it writes loads as a key table.
use mathlib.Core.Path.{◌≡◌, refl, sym, ◌∙◌, ap, subst}
use mathlib.Core.List.{List}
use Prim.Native.Nat.{ℕ, ◌≤◌}
use native.Mathlib.Nat.{zero-add}
use native.Mathlib.Omega.{arith}
use lib.ListN.{length, take}
use Rattle.std.specs.Prelude.{Ok, Err}
use Rattle.rules.specs.Names.{Means}
use Rattle.rules.specs.Ranges.{Good}
use Rattle.rules.specs.KeyTables.{KeyTable}
use Rattle.rules.specs.Translation.{Translates}
use Rattle.rules.proofs.Theorems.Translation.{a_table_has_one_translation}
use Rattle.wire.specs.Number.{Bytes}
use Rattle.wire.specs.Placed.{placed}
use Rattle.wire.proofs.PlacedLaws.{placed_take}
use Rattle.records.specs.Parsed.{got}
use Rattle.records.specs.declared.faults.Fault.{Fault}
use Rattle.records.proofs.ParsedLaws.{got_or_bad, got_one, bad_one}
use Rattle.table.specs.ReadTable.{Laid, table_of, read_table}
use Rattle.table.specs.ReadKeyTable.{KeyLaid, key_table_of, read_key_table, key_table_bytes}
use Rattle.table.proofs.Theorems.{table_form, key_table_reads}
use Rattle.table.proofs.SizesLaws.{key_table_short}
use Rattle.translation.specs.Promise.{Translated, Answers, bad_table, room, done}
use Rattle.translation.specs.declared.Refusal.TheVariants as refusal
use Rattle.translation.proofs.GoodLaws.{translation_good}

-- TWO ANSWERS THAT MEET THE PROMISE ARE EQUAL, and so is what the buffer holds.
pub translation_one : (table before : List ℕ) → Bytes table → {a b : Translated} {x y : List ℕ} → Answers table before a x → Answers table before b y → (a ≡ b) × (x ≡ y)
translation_one table before bytes (bad_table e) (bad_table h) = (ap (λ (f : Fault). Err (refusal.Table f)) (bad_one e h), refl)
translation_one table before bytes (bad_table e) (room h r) = absurd (got_or_bad h e)
translation_one table before bytes (bad_table e) (done h r k) = absurd (got_or_bad h e)
translation_one table before bytes (room e r) (bad_table h) = absurd (got_or_bad e h)
translation_one table before bytes (room e r) (room h s) = (refl, refl)
translation_one table before bytes (room e r) (done h s k) = absurd (omega (arith, r, s))
translation_one table before bytes (done e r k) (bad_table h) = absurd (got_or_bad e h)
translation_one table before bytes (done e r k) (room h s) = absurd (omega (arith, r, s))
translation_one table before bytes (done {l = l} {end = n} {K = K} e r k) (done {l = m} {end = i} {K = L} h s j) =
    let q : l ≡ m = got_one e h in
    let p : K ≡ L = a_table_has_one_translation (table_of l) (table_form table l n bytes e).1 K L k (subst (λ (z : Laid). Translates (Means (table_of z).names) (table_of z) L) (sym q) j) in
    (ap (λ (z : KeyTable). Ok (length (key_table_bytes z))) p, ap (λ (z : KeyTable). placed before 0 (key_table_bytes z)) p)

-- The first `n` bytes hold a key table, the translation of the table that was read, in at most 14,085 bytes.
pub record Loads (table after : List ℕ) (n : ℕ) : Type 0 where
  pub laid : Laid
  pub end : ℕ
  pub reads : read_table table ≡ got laid end
  pub key_laid : KeyLaid
  pub loads : read_key_table (take n after) ≡ got key_laid n
  pub translates : Translates (Means (table_of laid).names) (table_of laid) (key_table_of key_laid)
  pub short : n ≤ 14085

-- THE BYTES WRITTEN LOAD AS A KEY TABLE.
pub translation_loads : (table before : List ℕ) → Bytes table → (n : ℕ) (after : List ℕ) → Answers table before (Ok n) after → Loads table after n
translation_loads table before bytes n after (done {l = l} {end = end} {K = K} e r k) = loads
  where
    good : Good (table_of l)
    good = (table_form table l end bytes e).1

    short : length (key_table_bytes K) ≤ 14085
    short = key_table_short K (translation_good (table_of l) good K k)

    front : take (length (key_table_bytes K)) (placed before 0 (key_table_bytes K)) ≡ key_table_bytes K
    front = rw zero-add at (placed_take before (key_table_bytes K) 0 (omega (arith, short, r)))

    loads : Loads table (placed before 0 (key_table_bytes K)) (length (key_table_bytes K))
    loads =
        let w = key_table_reads K (translation_good (table_of l) good K k) in
        record {
          laid = l;
          end = end;
          reads = e;
          key_laid = w.0;
          loads = ap read_key_table front ∙ w.1;
          translates = subst (λ (z : KeyTable). Translates (Means (table_of l).names) (table_of l) z) (sym w.2) k;
          short = short;
        }
