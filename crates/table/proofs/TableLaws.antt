-- A whole table, from its version and its four sections.
use mathlib.Core.Path.{◌≡◌, sym, ◌∙◌, ap, subst}
use mathlib.Core.List.{List}
use Prim.Native.Nat.{ℕ, ◌<◌, ◌≤◌}
use native.Mathlib.Omega.{arith}
use lib.ListN.{length}
use Rattle.std.specs.Prelude.{Result, Ok, Err}
use Rattle.rules.specs.Ranges.{most_spaces, most_bindings, most_accesses, most_delegations}
use Rattle.rules.specs.Tables.{Binding, AccessRecord, Delegation}
use Rattle.rules.specs.declared.Key.{Key}
use Rattle.records.specs.Parsed.{got, bad, Reader, fault_at, ◌⟫◌, found_as, after}
use Rattle.records.specs.Bindings.{binding_record, is_bound}
use Rattle.records.specs.Accesses.{access_record}
use Rattle.records.specs.Delegations.{delegation_record}
use Rattle.records.specs.declared.faults.Kind.TheVariants as kind
use Rattle.records.specs.declared.faults.Fault.{Fault}
use Rattle.records.proofs.ParsedLaws.{got_then, bad_first, found_got, found_bad}
use Rattle.table.specs.Sections.{version, Part, section, section_of}
use Rattle.table.specs.ReadTable.{most_table, space_key, Laid, table_fields, read_table, loaded_of}
use Rattle.table.specs.declared.loading.Section.{Section}
use Rattle.table.specs.Kept.{IfGood, Kept, Standing, number_of, name_of, unbound, Indexed}
use Rattle.table.proofs.LoadingLaws.{Besides, ill, well}
use Rattle.table.proofs.SectionsLaws.{all_long, all_bad, all_got, all_more}
use Rattle.table.proofs.AnswersLaws.{after_got, after_bad}
use Rattle.table.specs.declared.Sections.{Sections}

-- The next binding behind these, and so on.
abbrev pub bindings_of : ℕ → List Binding → Reader Binding
bindings_of spaces earlier = binding_record spaces (is_bound earlier)

abbrev pub accesses_of : ℕ → List AccessRecord → Reader AccessRecord
accesses_of spaces earlier = access_record spaces

abbrev pub delegations_of : ℕ → List Delegation → Reader Delegation
delegations_of spaces earlier = delegation_record spaces

loaded_apart : (f : Fault) (l : Laid) (at : ℕ) → Err f ≡ loaded_of (got l at) → ⊥
loaded_apart f l at e = let z : ◌≡◌ {A = ℕ} 0 1 = cc in absurd (omega arith)

module _ (s keys names places access_places delegation_places : List ℕ) where
  -- What is answered, with what is kept if all is well.
  abbrev pub Loads : Result Sections Fault → Type 0
  Loads r = Besides loaded_of (λ (l : Laid). Indexed s l keys names places access_places delegation_places) r (read_table s)

  failed : (e : Fault) → read_table s ≡ bad e → Loads (Err e)
  failed e q = ill loaded_of (λ (l : Laid). Indexed s l keys names places access_places delegation_places) (Err e) (read_table s) (loaded_apart e) (ap loaded_of (sym q))

  pub table_long : most_table < length s → Loads (Err (fault_at kind.Long 0))
  unfolding read_table
  table_long h = failed (fault_at kind.Long 0) (all_long table_fields most_table s h)

  module _ (h : length s ≤ most_table) where
    is_bad : (e : Fault) → table_fields s 0 ≡ bad e → Loads (Err e)
    unfolding read_table
    is_bad e q = failed e (all_bad table_fields most_table s h e q)

    pub version_bad : (f : Fault) → Err f ≡ after (version 1 s 0) → Loads (Err f)
    unfolding table_fields
    version_bad f e = is_bad f (bad_first (version 1 s 0) _ (after_bad (version 1 s 0) e))

    module _ (a : ℕ) (e₀ : Ok a ≡ after (version 1 s 0)) where
      zero_th : (v : ℕ) × (version 1 s 0 ≡ got v a)
      zero_th = after_got (version 1 s 0) e₀

      pub spaces_bad : (f : Fault) → Err f ≡ found_as section_of (section most_spaces space_key s a) → Loads (Err f)
      unfolding table_fields
      spaces_bad f e = is_bad f (got_then (version 1 s 0) _ zero_th.1 ∙ bad_first (section most_spaces space_key s a) _ (found_bad section_of (section most_spaces space_key s a) e))

      module _ (x₁ : Section) (b : ℕ) (e₁ : Ok (x₁, b) ≡ found_as section_of (section most_spaces space_key s a)) where
        first : (p : Part Key) × (section most_spaces space_key s a ≡ got p b) × (x₁ ≡ section_of p)
        first = found_got section_of (section most_spaces space_key s a) e₁

        spaces : ℕ
        spaces = length first.0.records

        counted : x₁.count ≡ spaces
        unfolding spaces
        counted = ap (λ (x : Section). x.count) first.2

        -- What names and places hold, if the bindings are well.
        abbrev pub BindingsKept : ℕ → Type 0
        BindingsKept n = IfGood (section most_bindings (bindings_of n) s b) (λ (l : Part Binding). Kept name_of names l.records × Standing (binding_record n unbound) s places l.records)

        -- What follows the spaces.
        on_bindings : Reader Laid
        on_bindings s at =
            section most_bindings (bindings_of spaces) s at ⟫ λ bindings at.
            section most_accesses (accesses_of spaces) s at ⟫ λ accesses at.
            section most_delegations (delegations_of spaces) s at ⟫ λ delegations at.
            got (record { spaces = first.0; bindings = bindings; accesses = accesses; delegations = delegations }) at

        to_bindings : table_fields s 0 ≡ on_bindings s b
        unfolding table_fields on_bindings spaces
        to_bindings = got_then (version 1 s 0) _ zero_th.1 ∙ got_then (section most_spaces space_key s a) _ first.1

        pub bindings_bad : (f : Fault) → Err f ≡ found_as section_of (section most_bindings (bindings_of x₁.count) s b) → Loads (Err f)
        unfolding on_bindings
        bindings_bad f e =
            is_bad f (to_bindings ∙ bad_first (section most_bindings (bindings_of spaces) s b) _
            (found_bad section_of (section most_bindings (bindings_of spaces) s b) (e ∙ ap (λ (n : ℕ). found_as section_of (section most_bindings (bindings_of n) s b)) counted)))

        module _ (x₂ : Section) (c : ℕ) (e₂ : Ok (x₂, c) ≡ found_as section_of (section most_bindings (bindings_of x₁.count) s b)) where
          second : (p : Part Binding) × (section most_bindings (bindings_of spaces) s b ≡ got p c) × (x₂ ≡ section_of p)
          second = found_got section_of (section most_bindings (bindings_of spaces) s b) (e₂ ∙ ap (λ (n : ℕ). found_as section_of (section most_bindings (bindings_of n) s b)) counted)

          abbrev pub AccessesKept : ℕ → Type 0
          AccessesKept n = IfGood (section most_accesses (accesses_of n) s c) (λ (l : Part AccessRecord). Standing (access_record n) s access_places l.records)

          pub accesses_bad : (f : Fault) → Err f ≡ found_as section_of (section most_accesses (accesses_of x₁.count) s c) → Loads (Err f)
          unfolding on_bindings
          accesses_bad f e =
              is_bad f (to_bindings ∙ got_then (section most_bindings (bindings_of spaces) s b) _ second.1 ∙ bad_first (section most_accesses (accesses_of spaces) s c) _
              (found_bad section_of (section most_accesses (accesses_of spaces) s c) (e ∙ ap (λ (n : ℕ). found_as section_of (section most_accesses (accesses_of n) s c)) counted)))

          module _ (x₃ : Section) (d : ℕ) (e₃ : Ok (x₃, d) ≡ found_as section_of (section most_accesses (accesses_of x₁.count) s c)) where
            third : (p : Part AccessRecord) × (section most_accesses (accesses_of spaces) s c ≡ got p d) × (x₃ ≡ section_of p)
            third = found_got section_of (section most_accesses (accesses_of spaces) s c) (e₃ ∙ ap (λ (n : ℕ). found_as section_of (section most_accesses (accesses_of n) s c)) counted)

            abbrev pub DelegationsKept : ℕ → Type 0
            DelegationsKept n = IfGood (section most_delegations (delegations_of n) s d) (λ (l : Part Delegation). Standing (delegation_record n) s delegation_places l.records)

            pub delegations_bad : (f : Fault) → Err f ≡ found_as section_of (section most_delegations (delegations_of x₁.count) s d) → Loads (Err f)
            unfolding on_bindings
            delegations_bad f e =
                is_bad f (to_bindings ∙ got_then (section most_bindings (bindings_of spaces) s b) _ second.1 ∙ got_then (section most_accesses (accesses_of spaces) s c) _ third.1
                ∙ bad_first (section most_delegations (delegations_of spaces) s d) _
                (found_bad section_of (section most_delegations (delegations_of spaces) s d) (e ∙ ap (λ (n : ℕ). found_as section_of (section most_delegations (delegations_of n) s d)) counted)))

            module _ (x₄ : Section) (end : ℕ) (e₄ : Ok (x₄, end) ≡ found_as section_of (section most_delegations (delegations_of x₁.count) s d)) where
              fourth : (p : Part Delegation) × (section most_delegations (delegations_of spaces) s d ≡ got p end) × (x₄ ≡ section_of p)
              fourth = found_got section_of (section most_delegations (delegations_of spaces) s d) (e₄ ∙ ap (λ (n : ℕ). found_as section_of (section most_delegations (delegations_of n) s d)) counted)

              laid : Laid
              laid = record { spaces = first.0; bindings = second.0; accesses = third.0; delegations = fourth.0 }

              all_read : table_fields s 0 ≡ got laid end
              unfolding on_bindings laid
              all_read =
                  to_bindings ∙ got_then (section most_bindings (bindings_of spaces) s b) _ second.1 ∙ got_then (section most_accesses (accesses_of spaces) s c) _ third.1
                  ∙ got_then (section most_delegations (delegations_of spaces) s d) _ fourth.1

              pub table_more : (end ≡ length s → ⊥) → Loads (Err (fault_at kind.Extra end))
              unfolding read_table
              table_more n = failed (fault_at kind.Extra end) (all_more table_fields most_table s h laid end all_read n)

              pub table_found : IfGood (section most_spaces space_key s a) (λ (l : Part Key). Kept number_of keys l.records) → BindingsKept x₁.count → AccessesKept x₁.count → DelegationsKept x₁.count
                  → end ≡ length s → Loads (Ok (record { spaces = x₁; bindings = x₂; accesses = x₃; delegations = x₄ }))
              unfolding read_table laid spaces
              table_found k₁ k₂ k₃ k₄ n =
                  let g = all_got table_fields most_table s h laid end all_read n in
                  let w = subst BindingsKept counted k₂ second.0 c second.1 in
                  well loaded_of (λ (l : Laid). Indexed s l keys names places access_places delegation_places) (Ok (record { spaces = x₁; bindings = x₂; accesses = x₃; delegations = x₄ })) (read_table s) laid end g
                  (record {
                    spaces = k₁ first.0 b first.1;
                    names = w.0;
                    bindings = w.1;
                    accesses = subst AccessesKept counted k₃ third.0 d third.1;
                    delegations = subst DelegationsKept counted k₄ fourth.0 end fourth.1;
                  })
                  (rw (first.2, second.2, third.2, fourth.2) (ap loaded_of (sym g)))
