-- The place of a table's fault lies within the table's limit.
use mathlib.Core.Path.{◌≡◌, refl, sym, ◌∙◌, subst}
use mathlib.Core.Bool.{Bool, true, false}
use mathlib.Core.Logic.{◌⊎◌, inl, inr}
use mathlib.Core.List.{List, []}
use Prim.Native.Nat.{ℕ, ◌≤◌}
use native.Mathlib.Omega.{arith}
use lib.Dec.{eqb, leb}
use lib.ListN.{length}
use borrow.Author.Tests.{leb-true}
use Rattle.rules.specs.Choice.{pick}
use Rattle.rules.specs.Ranges.{most_spaces, most_bindings, most_accesses, most_delegations}
use Rattle.records.specs.Parsed.{got, bad, Reader, fault_at, ◌⟫◌}
use Rattle.records.specs.Fields.{any_number, field}
use Rattle.records.specs.Bindings.{is_bound}
use Rattle.records.specs.Many.{many}
use Rattle.records.specs.declared.faults.Kind.TheVariants as kind
use Rattle.records.specs.declared.faults.Fault.{Fault}
use Rattle.records.proofs.ParsedLaws.{then_got, then_bad, got_then, bad_first}
use Rattle.records.proofs.FormatLaws.{Walks, led, led_walks, just_walks, checked_walks}
use Rattle.records.proofs.FieldsForm.{number_walks, field_walks}
use Rattle.records.proofs.ManyForm.{many_walks}
use Rattle.records.proofs.RecordsForm.{binding_walks, access_walks, delegation_walks}
use Rattle.records.proofs.KeyRecordsForm.{key_access_walks, key_delegation_walks}
use Rattle.table.specs.Sections.{version, Part, section, all_of}
use Rattle.table.specs.ReadTable.{most_table, space_key, table_fields, read_table}
use Rattle.table.specs.ReadKeyTable.{most_key_table, key_table_fields, read_key_table}
use Rattle.table.proofs.RowsForm.{row_of, section_row}
use Rattle.table.proofs.SpacesLaws.{spaces_walk}
use Rattle.table.proofs.TableLaws.{bindings_of, accesses_of, delegations_of}
use Rattle.table.proofs.KeyTableForm.{key_accesses_of, key_delegations_of}

-- A reader stays within the bytes: so does the place after what it finds, and the place of a fault.
record Stays {A : Type 0} (P : Reader A) : Type 0 where
  ends : (x : A) (s : List ℕ) (at next : ℕ) → at ≤ length s → P s at ≡ got x next → next ≤ length s
  within : (e : Fault) (s : List ℕ) (at : ℕ) → at ≤ length s → P s at ≡ bad e → e.place.offset ≤ length s

walks_stay : {A : Type 0} (P : Reader A) → Walks P → Stays P
walks_stay P p = record { ends = λ x s at next h e. (p.ends x s at next h e).1; within = p.within }

-- What is read, with more told of it.
told_stays : {A B : Type 0} (P : Reader A) (plain : A → B) (Q : Reader B) → ((s : List ℕ) (at : ℕ) → (P s at ⟫ λ x at. got (plain x) at) ≡ Q s at) → Walks Q → Stays P
told_stays P plain Q same q = record {
  ends = λ x s at next h e. (q.ends (plain x) s at next h (sym (same s at) ∙ got_then (P s at) _ e)).1;
  within = λ e s at h g. q.within e s at h (sym (same s at) ∙ bad_first (P s at) _ g);
}

led_stays : {A B : Type 0} (P : Reader A) (Q : A → Reader B) → Stays P → ((x : A) → Stays (Q x)) → Stays (led P Q)
led_stays {A} {B} P Q p q = record { ends = ends; within = within }
  where
    ends : (y : B) (s : List ℕ) (at next : ℕ) → at ≤ length s → led P Q s at ≡ got y next → next ≤ length s
    ends y s at next h e = let r = then_got (λ x at. Q x s at) (P s at) y next e in (q r.0).ends y s r.1 next (p.ends r.0 s at r.1 h r.2) r.3

    within : (e : Fault) (s : List ℕ) (at : ℕ) → at ≤ length s → led P Q s at ≡ bad e → e.place.offset ≤ length s
    within e s at h g = go (then_bad (λ x at. Q x s at) (P s at) e g)
      where
        go : (P s at ≡ bad e) ⊎ ((x : A) × (mid : ℕ) × (P s at ≡ got x mid) × (Q x s mid ≡ bad e)) → e.place.offset ≤ length s
        go (inl a) = p.within e s at h a
        go (inr r) = (q r.0).within e s r.1 (p.ends r.0 s at r.1 h r.2) r.3

-- ---- what tables are made of
version_stays : (v : ℕ) → Stays (version v)
unfolding version
version_stays v = walks_stay (version v) (checked_walks kind.Version (λ n. eqb n v) any_number number_walks)

section_stays : {A : Type 0} (most : ℕ) (P : List A → Reader A) → ((earlier : List A) → Walks (P earlier)) → Stays (section most P)
section_stays {A} most P walks =
    told_stays (section most P) (λ (p : Part A). p.records) (row_of most P) (section_row most P)
    (led_walks (field 0 most) (λ n. many P n []) (field_walks 0 most) (λ n. many_walks P walks n []))

table_stays : Stays table_fields
unfolding table_fields
table_stays =
    led_stays (version 1) _ (version_stays 1)
    (λ v. led_stays (section most_spaces space_key) _ (section_stays most_spaces space_key spaces_walk)
    (λ k. let n = length k.records in
    led_stays (section most_bindings (bindings_of n)) _ (section_stays most_bindings (bindings_of n) (λ earlier. binding_walks n (is_bound earlier)))
    (λ b. led_stays (section most_accesses (accesses_of n)) _ (section_stays most_accesses (accesses_of n) (λ earlier. access_walks n))
    (λ a. led_stays (section most_delegations (delegations_of n)) _ (section_stays most_delegations (delegations_of n) (λ earlier. delegation_walks n))
    (λ d. walks_stay _ (just_walks _))))))

key_table_stays : Stays key_table_fields
unfolding key_table_fields
key_table_stays =
    led_stays (version 0) _ (version_stays 0)
    (λ v. led_stays (section most_accesses key_accesses_of) _ (section_stays most_accesses key_accesses_of (λ earlier. key_access_walks))
    (λ a. led_stays (section most_delegations key_delegations_of) _ (section_stays most_delegations key_delegations_of (λ earlier. key_delegation_walks))
    (λ d. walks_stay _ (just_walks _))))

-- ---- all of the bytes
module _ {A : Type 0} (P : Reader A) (stays : Stays P) (most : ℕ) (s : List ℕ) (e : Fault) where
  after : length s ≤ most → (P s 0 ≡ bad e) ⊎ ((x : A) × (at : ℕ) × (P s 0 ≡ got x at) × (pick (eqb at (length s)) (got x at) (bad (fault_at kind.Extra at)) ≡ bad e)) → e.place.offset ≤ most
  after h (inl a) = omega (arith, h, stays.within e s 0 (omega arith) a)
  after h (inr (x, at, p, q)) = go (eqb at (length s)) q
    where
      go : (b : Bool) → pick b (got x at) (bad (fault_at kind.Extra at)) ≡ bad e → e.place.offset ≤ most
      go true r = let z : ◌≡◌ {A = ℕ} 0 1 = cc in absurd (omega arith)
      go false r = let u : fault_at kind.Extra at ≡ e = cc in subst (λ (f : Fault). f.place.offset ≤ most) u (omega (arith, h, stays.ends x s 0 at (omega arith) p))

  all_within : all_of most P s ≡ bad e → e.place.offset ≤ most
  unfolding all_of
  all_within h = short (leb (length s) most) refl h
    where
      short : (b : Bool) → leb (length s) most ≡ b → pick b (P s 0 ⟫ λ x at. pick (eqb at (length s)) (got x at) (bad (fault_at kind.Extra at))) (bad (fault_at kind.Long 0)) ≡ bad e → e.place.offset ≤ most
      short true r g = after (leb-true (length s) most r) (then_bad (λ x at. pick (eqb at (length s)) (got x at) (bad (fault_at kind.Extra at))) (P s 0) e g)
      short false r g = let u : fault_at kind.Long 0 ≡ e = cc in subst (λ (f : Fault). f.place.offset ≤ most) u (omega arith)

-- ---- THE PLACE OF A FAULT
pub table_fault : (s : List ℕ) (e : Fault) → read_table s ≡ bad e → e.place.offset ≤ most_table
unfolding read_table
table_fault s e h = all_within table_fields table_stays most_table s e h

pub key_table_fault : (s : List ℕ) (e : Fault) → read_key_table s ≡ bad e → e.place.offset ≤ most_key_table
unfolding read_key_table
key_table_fault s e h = all_within key_table_fields key_table_stays most_key_table s e h
