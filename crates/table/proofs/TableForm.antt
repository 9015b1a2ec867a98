-- A table has one form: what reads as good is the encoding of what was read, and reading what was encoded gives it back.
use mathlib.Core.Path.{◌≡◌, refl, sym, ◌∙◌, ap, subst}
use mathlib.Core.Bool.{false}
use mathlib.Core.List.{List, ◌++◌}
use Prim.Native.Nat.{ℕ, ◌<◌, ◌≤◌, ◌^◌}
use native.Mathlib.Omega.{arith}
use lib.Dec.{eqb}
use lib.ListN.{length}
use borrow.Author.Tests.{eqb-true, eq-eqb}
use Rattle.rules.specs.Ranges.{most_spaces, most_bindings, most_accesses, most_delegations, GoodKey, GoodBinding, GoodAccess, GoodDelegation}
use Rattle.rules.specs.Tables.{Binding, AccessRecord, Delegation, Table}
use Rattle.rules.specs.declared.Key.{Key}
use Rattle.wire.specs.Number.{bytes_of}
use Rattle.records.specs.Parsed.{Parsed, got, bad, Reader, ◌⟫◌, ◌⊗◌, mapped}
use Rattle.records.specs.Fields.{any_number, key_field}
use Rattle.records.specs.Bindings.{is_bound, binding_bytes}
use Rattle.records.specs.Rows.{is_among}
use Rattle.records.specs.Accesses.{access_bytes}
use Rattle.records.specs.Delegations.{delegation_bytes}
use Rattle.records.specs.declared.faults.Kind.TheVariants as kind
use Rattle.records.proofs.FormatLaws.{Format, refit, led, led_format, mapped_format, both_format, checked_format, refused_format}
use Rattle.records.proofs.FieldsForm.{number_format, key_format}
use Rattle.records.proofs.RecordsForm.{binding_format, access_format, delegation_format}
use Rattle.table.specs.Sections.{version, Part, section}
use Rattle.table.specs.ReadTable.{space_key, numbers, Laid, table_of, table_fields, section_bytes, table_bytes}
use Rattle.table.proofs.TableLaws.{bindings_of, accesses_of, delegations_of}
use Rattle.table.proofs.RowsForm.{row_of, section_row, row_then, three_mapped, RowFits, row_format}

pub version_format : (v : ℕ) → v < 2 ^ 32 → Format (λ n. n ≡ v) (version v) bytes_of
unfolding version
version_format v h =
    refit _ (λ n. n ≡ v) (version v) bytes_of (λ n. (λ w. eqb-true n v w.1, λ e. (omega (arith, e), eq-eqb n v e))) (checked_format kind.Version (λ n. eqb n v) any_number _ _ number_format)

-- ---- a table without its places
abbrev with_spaces : List Key → List Binding × (List AccessRecord × List Delegation) → Table
with_spaces spaces w = record { names = record { spaces = spaces; bindings = w.0 }; accesses = w.1.0; delegations = w.1.1 }

abbrev after_spaces : List Key → Reader Table
after_spaces spaces =
    mapped (with_spaces spaces) (row_of most_bindings (bindings_of (length spaces)) ⊗ (row_of most_accesses (accesses_of (length spaces)) ⊗ row_of most_delegations (delegations_of (length spaces))))

pub table_rows : Reader Table
table_rows = led (version 1) (λ v. led (row_of most_spaces space_key) after_spaces)

-- The places are all that is left out.
module _ (s : List ℕ) where
  abbrev plain : Laid → ℕ → Parsed Table
  plain l at = got (table_of l) at

  abbrev on_delegations : Part Key → Part Binding → Part AccessRecord → Part Delegation → ℕ → Parsed Laid
  on_delegations k b a d at = got (record { spaces = k; bindings = b; accesses = a; delegations = d }) at

  abbrev on_accesses : Part Key → Part Binding → Part AccessRecord → ℕ → Parsed Laid
  on_accesses k b a at = section most_delegations (delegations_of (length k.records)) s at ⟫ on_delegations k b a

  abbrev on_bindings : Part Key → Part Binding → ℕ → Parsed Laid
  on_bindings k b at = section most_accesses (accesses_of (length k.records)) s at ⟫ on_accesses k b

  abbrev on_spaces : Part Key → ℕ → Parsed Laid
  on_spaces k at = section most_bindings (bindings_of (length k.records)) s at ⟫ on_bindings k

  rest_rows : (k : Part Key) (at : ℕ) → (on_spaces k at ⟫ plain) ≡ after_spaces k.records s at
  unfolding ◌⟫◌
  rest_rows k at =
      let n = length k.records in
      row_then (section most_bindings (bindings_of n) s at) (row_of most_bindings (bindings_of n) s at) (on_bindings k) _ plain (section_row most_bindings (bindings_of n) s at)
      (λ b at. row_then (section most_accesses (accesses_of n) s at) (row_of most_accesses (accesses_of n) s at) (on_accesses k b) _ plain (section_row most_accesses (accesses_of n) s at)
      (λ a at. row_then (section most_delegations (delegations_of n) s at) (row_of most_delegations (delegations_of n) s at) (on_delegations k b a) _ plain
      (section_row most_delegations (delegations_of n) s at) (λ d at. refl)))
      ∙ sym (three_mapped (with_spaces k.records) (row_of most_bindings (bindings_of n)) (row_of most_accesses (accesses_of n)) (row_of most_delegations (delegations_of n)) s at)

  pub table_rows_lem : (at : ℕ) → (table_fields s at ⟫ plain) ≡ table_rows s at
  unfolding table_fields table_rows ◌⟫◌
  table_rows_lem at = go (version 1 s at)
    where
      go : (p : Parsed ℕ) → ((p ⟫ λ v at. section most_spaces space_key s at ⟫ on_spaces) ⟫ plain) ≡ (p ⟫ λ v at. row_of most_spaces space_key s at ⟫ λ k at. after_spaces k s at)
      go (got v at) =
          row_then (section most_spaces space_key s at) (row_of most_spaces space_key s at) on_spaces (λ k at. after_spaces k s at) plain (section_row most_spaces space_key s at) rest_rows
      go (bad e) = refl

-- ---- what fits
abbrev pub SpaceFits : List Key → Key → Type 0
SpaceFits earlier k = GoodKey k × (is_among (numbers earlier) k.0 ≡ false)

abbrev pub BindingFits : ℕ → List Binding → Binding → Type 0
BindingFits spaces earlier x = GoodBinding spaces x × (is_bound earlier x.space x.base ≡ false)

abbrev key_bytes : Key → List ℕ
key_bytes k = bytes_of k.0

-- The rows behind the spaces, of which there are so many.
abbrev pub RestFits : ℕ → List Binding × (List AccessRecord × List Delegation) → Type 0
RestFits n w =
    RowFits most_bindings (bindings_of n) (BindingFits n) binding_bytes w.0
    × (RowFits most_accesses (accesses_of n) (λ earlier. GoodAccess n) access_bytes w.1.0 × RowFits most_delegations (delegations_of n) (λ earlier. GoodDelegation n) delegation_bytes w.1.1)

abbrev rest : Table → List Binding × (List AccessRecord × List Delegation)
rest t = (t.names.bindings, (t.accesses, t.delegations))

abbrev pub TableFits : Table → Type 0
TableFits t = RowFits most_spaces space_key SpaceFits key_bytes t.names.spaces × RestFits (length t.names.spaces) (rest t)

abbrev rest_bytes : Table → List ℕ
rest_bytes t = section_bytes binding_bytes t.names.bindings ++ (section_bytes access_bytes t.accesses ++ section_bytes delegation_bytes t.delegations)

rest_format : (spaces : List Key) → length spaces ≤ most_spaces → Format (λ t. RestFits (length t.names.spaces) (rest t) × (t.names.spaces ≡ spaces)) (after_spaces spaces) rest_bytes
rest_format spaces few =
    refit (λ t. RestFits (length spaces) (rest t) × (t.names.spaces ≡ spaces)) _ (after_spaces spaces) rest_bytes
    (λ t. (λ w. (subst (λ (l : List Key). RestFits (length l) (rest t)) (sym w.1) w.0, w.1), λ w. (subst (λ (l : List Key). RestFits (length l) (rest t)) w.1 w.0, w.1)))
    (mapped_format (with_spaces spaces) _ (RestFits (length spaces)) _ rest (λ t. t.names.spaces ≡ spaces) (λ w. refl) (λ w. refl)
    (λ t e. ap (λ (l : List Key). with_spaces l (rest t)) (sym e))
    (both_format (row_of most_bindings (bindings_of (length spaces))) _ _ _ _ _ bindings (both_format (row_of most_accesses (accesses_of (length spaces))) (row_of most_delegations (delegations_of (length spaces))) _ _ _ _ accesses delegations)))
  where
    bindings : Format (RowFits most_bindings (bindings_of (length spaces)) (BindingFits (length spaces)) binding_bytes) (row_of most_bindings (bindings_of (length spaces))) (section_bytes binding_bytes)
    bindings = row_format most_bindings (bindings_of (length spaces)) (BindingFits (length spaces)) binding_bytes (omega arith) (λ earlier. binding_format (length spaces) (omega (arith, few)) (is_bound earlier))

    accesses : Format (RowFits most_accesses (accesses_of (length spaces)) (λ earlier. GoodAccess (length spaces)) access_bytes) (row_of most_accesses (accesses_of (length spaces))) (section_bytes access_bytes)
    accesses = row_format most_accesses (accesses_of (length spaces)) (λ earlier. GoodAccess (length spaces)) access_bytes (omega arith) (λ earlier. access_format (length spaces) (omega (arith, few)))

    delegations : Format (RowFits most_delegations (delegations_of (length spaces)) (λ earlier. GoodDelegation (length spaces)) delegation_bytes) (row_of most_delegations (delegations_of (length spaces))) (section_bytes delegation_bytes)
    delegations = row_format most_delegations (delegations_of (length spaces)) (λ earlier. GoodDelegation (length spaces)) delegation_bytes (omega arith) (λ earlier. delegation_format (length spaces) (omega (arith, few)))

spaces_format : Format (RowFits most_spaces space_key SpaceFits key_bytes) (row_of most_spaces space_key) (section_bytes key_bytes)
spaces_format = row_format most_spaces space_key SpaceFits key_bytes (omega arith) (λ earlier. refused_format kind.Twice (λ k. is_among (numbers earlier) k.0) key_field GoodKey key_bytes key_format)

pub rows_format : Format TableFits table_rows table_bytes
unfolding table_rows table_bytes
rows_format =
    refit (λ t. (1 ≡ 1) × TableFits t) TableFits table_rows table_bytes (λ t. (λ w. w.1, λ w. (refl, w)))
    (led_format (version 1) (λ v. led (row_of most_spaces space_key) after_spaces) (λ n. n ≡ 1) bytes_of TableFits (λ t. section_bytes key_bytes t.names.spaces ++ rest_bytes t) (λ t. 1)
    (version_format 1 (omega arith))
    (λ v e. refit TableFits (λ t. TableFits t × (1 ≡ v)) (led (row_of most_spaces space_key) after_spaces) _ (λ t. (λ w. (w, sym e), λ w. w.0))
    (led_format (row_of most_spaces space_key) after_spaces (RowFits most_spaces space_key SpaceFits key_bytes) (section_bytes key_bytes) (λ t. RestFits (length t.names.spaces) (rest t)) rest_bytes
    (λ t. t.names.spaces) spaces_format (λ spaces fit. rest_format spaces fit.0))))
