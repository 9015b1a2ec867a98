-- What each way through the reader of bindings finds is what a binding's definition says.
use mathlib.Core.Path.{◌≡◌, ◌∙◌, subst}
use mathlib.Core.Bool.{Bool, true, false}
use mathlib.Core.List.{List}
use Prim.Native.Nat.{ℕ, ◌<◌}
use lib.Dec.{ltb}
use borrow.Author.Tests.{ltb-true}
use Rattle.rules.specs.Choice.{pick}
use Rattle.rules.specs.Ranges.{most_base}
use Rattle.rules.specs.Tables.{Target}
use Rattle.rules.specs.declared.Space.{Space}
use Rattle.records.specs.Parsed.{got, bad, fault_at, ◌⟫◌}
use Rattle.records.specs.Fields.{any_number, tested, field, space_field}
use Rattle.records.specs.Targets.{target_field}
use Rattle.records.specs.Bindings.{binding_record}
use Rattle.records.specs.declared.faults.Kind.TheVariants as kind
use Rattle.records.specs.declared.faults.Fault.{Fault}
use Rattle.records.proofs.ParsedLaws.{got_then, bad_first, mapped_from}
use Rattle.records.proofs.FormatLaws.{checked_got}

-- ---- a space that was found is one of the table's
pub space_below : (spaces : ℕ) (s : List ℕ) (at : ℕ) (S : Space) (next : ℕ) → space_field spaces s at ≡ got S next → S.0 < spaces
unfolding space_field
space_below spaces s at S next e = go (mapped_from _ (tested kind.Range (λ v. ltb v spaces)) s at S next e)
  where
    go : (v : ℕ) × (tested kind.Range (λ v. ltb v spaces) s at ≡ got v next) × (record { 0 = v } ≡ S) → S.0 < spaces
    go (v, a, u) = subst (λ (T : Space). T.0 < spaces) u (ltb-true v spaces (checked_got kind.Range (λ v. ltb v spaces) any_number v s at next a).1)

-- ---- part by part
module _ (spaces : ℕ) (bound : Space → ℕ → Bool) (s : List ℕ) where
  pub space_fails : (f : Fault) → space_field spaces s 0 ≡ bad f → binding_record spaces bound s 0 ≡ bad f
  unfolding binding_record
  space_fails f h = bad_first (space_field spaces s 0) _ h

  module _ (S : Space) (at₁ : ℕ) (got₁ : space_field spaces s 0 ≡ got S at₁) where
    step₁ : binding_record spaces bound s 0
        ≡ (field 1 most_base s at₁ ⟫ λ base after. pick (bound S base) (bad (fault_at kind.Twice at₁))
        (target_field spaces s after ⟫ λ target at. got (record { space = S; base = base; target = target }) at))
    unfolding binding_record
    step₁ = got_then (space_field spaces s 0) _ got₁

    pub base_fails : (f : Fault) → field 1 most_base s at₁ ≡ bad f → binding_record spaces bound s 0 ≡ bad f
    base_fails f h = step₁ ∙ bad_first (field 1 most_base s at₁) _ h

    module _ (b at₂ : ℕ) (got₂ : field 1 most_base s at₁ ≡ got b at₂) where
      step₂ : binding_record spaces bound s 0
          ≡ pick (bound S b) (bad (fault_at kind.Twice at₁)) (target_field spaces s at₂ ⟫ λ target at. got (record { space = S; base = b; target = target }) at)
      step₂ = step₁ ∙ got_then (field 1 most_base s at₁) _ got₂

      pub twice_found : bound S b ≡ true → binding_record spaces bound s 0 ≡ bad (fault_at kind.Twice at₁)
      twice_found h = step₂ ∙ rw h

      module _ (new : bound S b ≡ false) where
        step₃ : binding_record spaces bound s 0 ≡ (target_field spaces s at₂ ⟫ λ target at. got (record { space = S; base = b; target = target }) at)
        step₃ = step₂ ∙ rw new

        pub target_fails : (f : Fault) → target_field spaces s at₂ ≡ bad f → binding_record spaces bound s 0 ≡ bad f
        target_fails f h = step₃ ∙ bad_first (target_field spaces s at₂) _ h

        pub binding_found : (g : Target) (next : ℕ) → target_field spaces s at₂ ≡ got g next → binding_record spaces bound s 0 ≡ got (record { space = S; base = b; target = g }) next
        binding_found g next h = step₃ ∙ got_then (target_field spaces s at₂) _ h
