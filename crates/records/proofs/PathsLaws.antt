-- What each way through the readers of paths finds is what a path's definition says.
use mathlib.Core.Path.{◌≡◌, refl, ◌∙◌, ap}
use mathlib.Core.List.{List, [], ◌∷◌}
use Prim.Native.Nat.{ℕ, zero, suc, ◌≤◌}
use native.Mathlib.Omega.{arith}
use Rattle.rules.specs.Ranges.{most_base}
use Rattle.rules.specs.Tables.{Path}
use Rattle.records.specs.Parsed.{Parsed, got, bad, ◌⟫◌}
use Rattle.records.specs.Fields.{field}
use Rattle.records.specs.Paths.{names_from}
use Rattle.records.specs.declared.faults.Fault.{Fault}
use Rattle.records.proofs.ParsedLaws.{got_then, bad_first}

-- ---- base names, one after the other
abbrev before : ℕ → Parsed Path → Parsed Path
before b p = p ⟫ λ q at. got (b ∷ q) at

-- One fewer.
less : (n : ℕ) → (n ≡ 0 → ⊥) → (m : ℕ) × (n ≡ suc m)
less zero h = absurd (h refl)
less (suc m) h = (m, refl)

module _ (n : ℕ) (s : List ℕ) (at : ℕ) where
  names_end : n ≡ 0 → names_from n s at ≡ got [] at
  unfolding names_from
  names_end e = rw e

  names_on : (m b next : ℕ) → n ≡ suc m → field 1 most_base s at ≡ got b next → names_from n s at ≡ before b (names_from m s next)
  unfolding names_from
  names_on m b next h e = rw h (got_then (field 1 most_base s at) _ e)

  names_stop : (m : ℕ) (e : Fault) → n ≡ suc m → field 1 most_base s at ≡ bad e → names_from n s at ≡ bad e
  unfolding names_from
  names_stop m e h g = rw h (bad_first (field 1 most_base s at) _ g)

-- ---- so many names, read one by one
module _ (n : ℕ) (s : List ℕ) (at : ℕ) where
  pub none_found : n ≡ 0 → names_from n s at ≡ got [] at
  none_found h = names_end n s at h

  module _ (h₀ : n ≡ 0 → ⊥) where
    m₁ : ℕ
    m₁ = (less n h₀).0

    e₁ : n ≡ suc m₁
    unfolding m₁
    e₁ = (less n h₀).1

    pub first_fails : (f : Fault) → field 1 most_base s at ≡ bad f → names_from n s at ≡ bad f
    first_fails f h = names_stop n s at m₁ f e₁ h

    module _ (b₁ at₁ : ℕ) (got₁ : field 1 most_base s at ≡ got b₁ at₁) where
      on₁ : names_from n s at ≡ before b₁ (names_from m₁ s at₁)
      on₁ = names_on n s at m₁ b₁ at₁ e₁ got₁

      pub one_found : n ≡ 1 → names_from n s at ≡ got (b₁ ∷ []) at₁
      unfolding ◌⟫◌
      one_found h = on₁ ∙ ap (before b₁) (names_end m₁ s at₁ (omega (arith, h, e₁)))

      module _ (h₁ : n ≡ 1 → ⊥) where
        some₁ : m₁ ≡ 0 → ⊥
        some₁ e = h₁ (e₁ ∙ ap suc e)

        m₂ : ℕ
        m₂ = (less m₁ some₁).0

        e₂ : m₁ ≡ suc m₂
        unfolding m₂
        e₂ = (less m₁ some₁).1

        pub second_fails : (f : Fault) → field 1 most_base s at₁ ≡ bad f → names_from n s at ≡ bad f
        unfolding ◌⟫◌
        second_fails f h = on₁ ∙ ap (before b₁) (names_stop m₁ s at₁ m₂ f e₂ h)

        module _ (b₂ at₂ : ℕ) (got₂ : field 1 most_base s at₁ ≡ got b₂ at₂) where
          on₂ : names_from n s at ≡ before b₁ (before b₂ (names_from m₂ s at₂))
          on₂ = on₁ ∙ ap (before b₁) (names_on m₁ s at₁ m₂ b₂ at₂ e₂ got₂)

          pub two_found : n ≡ 2 → names_from n s at ≡ got (b₁ ∷ b₂ ∷ []) at₂
          unfolding ◌⟫◌
          two_found h = on₂ ∙ ap (λ (p : Parsed Path). before b₁ (before b₂ p)) (names_end m₂ s at₂ (omega (arith, h, e₁, e₂)))

          module _ (h₂ : n ≡ 2 → ⊥) where
            some₂ : m₂ ≡ 0 → ⊥
            some₂ e = h₂ (e₁ ∙ ap suc (e₂ ∙ ap suc e))

            m₃ : ℕ
            m₃ = (less m₂ some₂).0

            e₃ : m₂ ≡ suc m₃
            unfolding m₃
            e₃ = (less m₂ some₂).1

            pub third_fails : (f : Fault) → field 1 most_base s at₂ ≡ bad f → names_from n s at ≡ bad f
            unfolding ◌⟫◌
            third_fails f h = on₂ ∙ ap (λ (p : Parsed Path). before b₁ (before b₂ p)) (names_stop m₂ s at₂ m₃ f e₃ h)

            module _ (b₃ at₃ : ℕ) (got₃ : field 1 most_base s at₂ ≡ got b₃ at₃) where
              on₃ : names_from n s at ≡ before b₁ (before b₂ (before b₃ (names_from m₃ s at₃)))
              on₃ = on₂ ∙ ap (λ (p : Parsed Path). before b₁ (before b₂ p)) (names_on m₂ s at₂ m₃ b₃ at₃ e₃ got₃)

              pub three_found : n ≡ 3 → names_from n s at ≡ got (b₁ ∷ b₂ ∷ b₃ ∷ []) at₃
              unfolding ◌⟫◌
              three_found h = on₃ ∙ ap (λ (p : Parsed Path). before b₁ (before b₂ (before b₃ p))) (names_end m₃ s at₃ (omega (arith, h, e₁, e₂, e₃)))

              module _ (h₃ : n ≡ 3 → ⊥) (h₄ : n ≤ 4) where
                some₃ : m₃ ≡ 0 → ⊥
                some₃ e = h₃ (e₁ ∙ ap suc (e₂ ∙ ap suc (e₃ ∙ ap suc e)))

                m₄ : ℕ
                m₄ = (less m₃ some₃).0

                e₄ : m₃ ≡ suc m₄
                unfolding m₄
                e₄ = (less m₃ some₃).1

                pub fourth_fails : (f : Fault) → field 1 most_base s at₃ ≡ bad f → names_from n s at ≡ bad f
                unfolding ◌⟫◌
                fourth_fails f h = on₃ ∙ ap (λ (p : Parsed Path). before b₁ (before b₂ (before b₃ p))) (names_stop m₃ s at₃ m₄ f e₄ h)

                pub four_found : (b₄ at₄ : ℕ) → field 1 most_base s at₃ ≡ got b₄ at₄ → names_from n s at ≡ got (b₁ ∷ b₂ ∷ b₃ ∷ b₄ ∷ []) at₄
                unfolding ◌⟫◌
                four_found b₄ at₄ got₄ =
                    let z : m₄ ≡ 0 = omega (arith, h₄, e₁, e₂, e₃, e₄) in
                    on₃ ∙ ap (λ (p : Parsed Path). before b₁ (before b₂ (before b₃ p))) (names_on m₃ s at₃ m₄ b₄ at₄ e₄ got₄ ∙ ap (before b₄) (names_end m₄ s at₄ z))
