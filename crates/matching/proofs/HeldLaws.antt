-- A table that was loaded good, with what was kept of it in arrays.
use mathlib.Core.Path.{◌≡◌, sym, ◌∙◌, ap, subst}
use mathlib.Core.List.{List}
use Prim.Native.Nat.{ℕ, ◌≤◌}
use native.Mathlib.Omega.{arith}
use lib.ListN.{length, take, length-map}
use lib.Seq.{length-take-le, get_or-take}
use Rattle.std.specs.Prelude.{Ok, Err}
use Rattle.rules.specs.Ranges.{Good, most_spaces, most_bindings, most_accesses, most_delegations}
use Rattle.rules.specs.Tables.{Table}
use Rattle.wire.specs.Number.{Bytes}
use Rattle.records.specs.Parsed.{Parsed, got, bad, Reader}
use Rattle.records.specs.Accesses.{access_record}
use Rattle.records.specs.Delegations.{delegation_record}
use Rattle.records.specs.declared.faults.Fault.{Fault}
use Rattle.table.specs.ReadTable.{Laid, table_of, read_table, table_at, sections_of, loaded_of}
use Rattle.table.specs.Kept.{IfGood, Standing, Indexed, number_of}
use Rattle.table.specs.declared.Sections.{Sections}
use Rattle.table.proofs.Theorems.{table_form}
use Rattle.sheet.specs.Known.{Known}
use Rattle.sheet.proofs.KnownLaws.{table_at_lem, good_table_lem, known_here}
use Rattle.matching.specs.Held.{Held}

-- What a good answer of `load_index` says.
pub record Read (s : List ℕ) (v : Sections) : Type 0 where
  pub laid : Laid
  pub end : ℕ
  pub table : read_table s ≡ got laid end
  pub same : sections_of laid ≡ v

pub read_good : (p : Parsed Laid) (v : Sections) → Ok v ≡ loaded_of p → (l : Laid) × (end : ℕ) × (p ≡ got l end) × (sections_of l ≡ v)
read_good (got l n) v e = let q : sections_of l ≡ v = cc in (l, n, λ i. got l n, q)
read_good (bad f) v e = let z : ◌≡◌ {A = ℕ} 0 1 = cc in absurd (omega arith)

pub read_bad : (p : Parsed Laid) (f : Fault) → Err f ≡ loaded_of p → p ≡ bad f
read_bad (got l n) f e = let z : ◌≡◌ {A = ℕ} 0 1 = cc in absurd (omega arith)
read_bad (bad g) f e = let q : g ≡ f = cc in ap bad q

pub read_table_lem : (s : List ℕ) (v : Sections) → Ok v ≡ loaded_of (read_table s) → Read s v
read_table_lem s v e = let w = read_good (read_table s) v e in record { laid = w.0; end = w.1; table = w.2; same = w.3 }

module _ (s : List ℕ) (bytes : Bytes s) (v : Sections) (read : Read s v) where
  good : Good (table_of read.laid)
  good = (table_form s read.laid read.end bytes read.table).1

  pub few_spaces_read : v.spaces.count ≤ most_spaces
  few_spaces_read = omega (arith, ap (λ (x : Sections). x.spaces.count) read.same, good.few_spaces)

  pub few_bindings_read : v.bindings.count ≤ most_bindings
  few_bindings_read = omega (arith, ap (λ (x : Sections). x.bindings.count) read.same, good.few_bindings)

  pub few_accesses_read : v.accesses.count ≤ most_accesses
  few_accesses_read = omega (arith, ap (λ (x : Sections). x.accesses.count) read.same, good.few_accesses)

  pub few_delegations_read : v.delegations.count ≤ most_delegations
  few_delegations_read = omega (arith, ap (λ (x : Sections). x.delegations.count) read.same, good.few_delegations)

  module _ (keys names bindings accesses delegations : List ℕ) (kept : IfGood (read_table s) (λ (l : Laid). Indexed s l keys names bindings accesses delegations)) where
    kept_so : Indexed s read.laid keys names bindings accesses delegations
    kept_so = kept read.laid read.end read.table

    pub known_read : most_bindings ≤ length bindings → Known (table_at s).names s (take v.spaces.count keys) (take v.bindings.count names) bindings
    known_read room =
        subst (λ (x : Sections). Known (table_at s).names s (take x.spaces.count keys) (take x.bindings.count names) bindings) read.same
        (known_here s read.laid read.end bytes read.table keys names bindings accesses delegations kept_so room)

    pub held_read : most_bindings ≤ length bindings → most_accesses ≤ length accesses → most_delegations ≤ length delegations
        → Held s (take v.spaces.count keys) (take v.bindings.count names) (take v.accesses.count accesses) (take v.delegations.count delegations)
    held_read room a b = record {
      good = good_table_lem s read.laid read.end bytes read.table;
      index = (known_read room).index;
      access_count = length-take-le v.accesses.count accesses (omega (arith, a, few_accesses_read)) ∙ sym (ap (λ (x : Sections). x.accesses.count) read.same) ∙ sym (ap (λ (t : Table). length t.accesses) at);
      delegation_count = length-take-le v.delegations.count delegations (omega (arith, b, few_delegations_read)) ∙ sym (ap (λ (x : Sections). x.delegations.count) read.same)
          ∙ sym (ap (λ (t : Table). length t.delegations) at);
      accesses = subst (λ (t : Table). Standing (access_record (length (take v.spaces.count keys))) s (take v.accesses.count accesses) t.accesses) (sym at)
          (stands_in (access_record (length (take v.spaces.count keys))) accesses v.accesses.count read.laid.accesses.records (ap (λ (x : Sections). x.accesses.count) read.same)
          (subst (λ (n : ℕ). Standing (access_record n) s accesses read.laid.accesses.records) counted kept_so.accesses));
      delegations = subst (λ (t : Table). Standing (delegation_record (length (take v.spaces.count keys))) s (take v.delegations.count delegations) t.delegations) (sym at)
          (stands_in (delegation_record (length (take v.spaces.count keys))) delegations v.delegations.count read.laid.delegations.records
          (ap (λ (x : Sections). x.delegations.count) read.same) (subst (λ (n : ℕ). Standing (delegation_record n) s delegations read.laid.delegations.records) counted kept_so.delegations));
    }
      where
        at : table_at s ≡ table_of read.laid
        at = table_at_lem s read.laid read.end read.table

        counted : length read.laid.spaces.records ≡ length (take v.spaces.count keys)
        counted = sym (ap (λ (n : ℕ). length (take n keys)) (sym (ap (λ (x : Sections). x.spaces.count) read.same)) ∙ ap length kept_so.spaces.same ∙ length-map read.laid.spaces.records number_of)

        -- The first places are all that matter.
        stands_in : {A : Type 0} (P : Reader A) (places : List ℕ) (n : ℕ) (l : List A) → length l ≡ n → Standing P s places l → Standing P s (take n places) l
        stands_in P places n l e w = record {
          within = λ i h. subst (λ (x : ℕ). x ≤ length s) (sym (get_or-take n places i 0 (omega arith))) (w.within i h);
          stands = λ i x a. let r = w.stands i x a in (r.0, ap (P s) (get_or-take n places i 0 (omega (arith, a.there))) ∙ r.1);
        }
