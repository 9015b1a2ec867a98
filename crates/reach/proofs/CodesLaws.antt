-- The depth that a code stands for is one less.
use mathlib.Core.Path.{◌≡◌, refl, sym, ◌∙◌}
use Prim.Native.Nat.{ℕ, suc, ◌-◌, ◌≤◌}
use native.Mathlib.Omega.{arith}
use borrow.Author.Tests.{le-leb}
use Rattle.std.specs.Prelude.{Option, Some, None}
use Rattle.rules.specs.Depths.{top, made}
use Rattle.rules.specs.declared.Depth.{Depth}

module _ (c : ℕ) (some : c ≡ 0 → ⊥) (most : c ≤ suc top) (m : Option Depth) (is : m ≡ made (c - 1)) where
  made_good : m ≡ Some (record { 0 = c - 1 })
  made_good = is ∙ rw (le-leb (c - 1) top (omega arith)) refl

  pub code_depth : (d : Depth) → m ≡ Some d → d ≡ record { 0 = c - 1 }
  code_depth d e = cc (sym e ∙ made_good)

  pub code_fits : m ≡ None → ⊥
  code_fits e = let q = sym e ∙ made_good in let z : ◌≡◌ {A = ℕ} 0 1 = cc q in absurd (omega arith)
