-- A chain has at most 15 delegations.
use mathlib.Core.Path.{◌≡◌, ap}
use mathlib.Core.List.{List}
use mathlib.Core.Option.{Option, none, some}
use Prim.Native.Nat.{ℕ, ◌≤◌}
use native.Mathlib.Omega.{arith}
use Rattle.std.specs.Prelude.{Some}
use Rattle.wire.specs.Number.{Bytes}
use Rattle.records.specs.DerivationBytes as derivation
use Rattle.records.specs.DerivationBytes.{read_derivation, parts_of}
use Rattle.records.specs.Requests.{held_as}
use Rattle.records.specs.declared.derivations.Parts.{Parts}
use Rattle.records.proofs.DerivationForm.{derivation_form}

pub chain_short : (s : List ℕ) (v : Parts) → Bytes s → Some v ≡ held_as parts_of (read_derivation s) → v.delegations ≤ 15
chain_short s v b e = go (read_derivation s) (λ i. read_derivation s) e
  where
    go : (p : Option derivation.Laid) → read_derivation s ≡ p → Some v ≡ held_as parts_of p → v.delegations ≤ 15
    go (some l) q e =
        let x : v ≡ parts_of l = cc in
        let y = (derivation_form s l b q).1.short in
        omega (arith, ap (λ (v : Parts). v.delegations) x, y)
    go none q e = let z : ◌≡◌ {A = ℕ} 0 1 = cc in absurd (omega arith)
