-- The space and the binding whose number was found first in a row.
use mathlib.Core.Path.{◌≡◌, sym, ◌∙◌, ap, ap₂, subst}
use mathlib.Core.List.{List, [], ◌∷◌, map}
use Prim.Native.Nat.{ℕ, ◌<◌}
use native.Mathlib.Omega.{arith}
use lib.ListN.{length, get_or, length-map, get_or-map}
use Rattle.std.specs.Prelude.{Option, Some, None, MatchOption}
use Rattle.rules.specs.Lists.{At}
use Rattle.rules.specs.Tables.{Binding}
use Rattle.rules.specs.Names.{opener}
use Rattle.rules.specs.declared.Key.{Key}
use Rattle.rules.specs.declared.Space.{Space}
use Rattle.rules.proofs.ListsLaws.{get_or_any, at_get_or, at_reads}
use Rattle.records.specs.Bindings.{packed}
use Rattle.records.specs.Rows.{Passed, First}
use Rattle.table.specs.Finding.{FindsSpace, has, nobody, FindsBinding, opens, nothing, keys_of, Names}
use Rattle.table.specs.Kept.{name_of}

-- ---- spaces
module _ (keys : List ℕ) (k : Key) where
  key_there : (i : ℕ) → At (keys_of keys) i k → (i < length keys) × (get_or keys i 0 ≡ k.0)
  key_there i a =
      let h : length (keys_of keys) ≡ length keys = length-map keys (λ (n : ℕ). record { 0 = n }) in
      let e : get_or (keys_of keys) i (record { 0 = 0 }) ≡ k = at_reads a (record { 0 = 0 }) in
      (omega (arith, a.there), ap (λ (x : Key). x.0) (sym (get_or-map {B = Key} (λ (n : ℕ). record { 0 = n }) keys i 0) ∙ e))

  pub space_here : (i : ℕ) → i < length keys → get_or keys i 0 ≡ k.0 → FindsSpace (keys_of keys) k (Some (record { 0 = i }))
  space_here i h e =
      let g : length (keys_of keys) ≡ length keys = length-map keys (λ (n : ℕ). record { 0 = n }) in
      let a : At (keys_of keys) i (get_or (keys_of keys) i (record { 0 = 0 })) = at_get_or (keys_of keys) i (record { 0 = 0 }) (omega arith) in
      has (record { 0 = i }) (record { at = subst (λ (x : Key). At (keys_of keys) i x) (get_or-map {B = Key} (λ (n : ℕ). record { 0 = n }) keys i 0 ∙ ap (λ (n : ℕ). record { 0 = n }) e) a })

  pub space_nowhere : Passed keys k.0 (length keys) → FindsSpace (keys_of keys) k None
  space_nowhere p = nobody (λ S s. let w = key_there S.0 s.at in p.others S.0 w.0 w.1)

-- ---- bindings
-- There is an element below the length.
pub at_below : {A : Type 0} (l : List A) (i : ℕ) → i < length l → (x : A) × At l i x
at_below [] i h = absurd (omega arith)
at_below (y ∷ l) i h = (get_or (y ∷ l) i y, at_get_or (y ∷ l) i y h)

module _ (names : List ℕ) (T : Space) (b : ℕ) (below : b < 65536) where
  module _ (l : List Binding) (kept : Names l names) where
    name_at : (i : ℕ) (x : Binding) → At l i x → (i < length names) × (get_or names i 0 ≡ name_of x)
    name_at i x a =
        let h : length (map name_of l) ≡ length l = length-map l name_of in
        let g : length (map name_of l) ≡ length names = ap length kept.same in
        let e : get_or (map name_of l) i (name_of x) ≡ name_of x = get_or-map name_of l i x ∙ ap name_of a.is in
        (omega (arith, a.there), get_or_any names i 0 (name_of x) (omega (arith, a.there)) ∙ ap (λ (m : List ℕ). get_or m i (name_of x)) (sym kept.same) ∙ e)

    same_name : (x : Binding) (i : ℕ) → At l i x → name_of x ≡ packed T b → (x.space ≡ T) × (x.base ≡ b)
    same_name x i a e =
        let g = kept.bases i x a in
        let s : x.space.0 ≡ T.0 = omega (arith, e, g) in
        (ap (λ (n : ℕ). record { 0 = n }) s, omega (arith, e, g))

    pub binding_here : (i : ℕ) → i < length names → get_or names i 0 ≡ packed T b → FindsBinding l T b (Some i)
    unfolding opener
    binding_here i h e = go (at_below l i (omega (arith, ap length kept.same, length-map l name_of)))
      where
        go : (x : Binding) × At l i x → FindsBinding l T b (Some i)
        go (x, a) =
            let w = same_name x i a (sym (name_at i x a).1 ∙ e) in
            opens i x.target (record { at = subst (λ (y : Binding). At l i y) (ap₂ (λ (S : Space) (c : ℕ). record { space = S; base = c; target = x.target }) w.0 w.1) a })

    pub binding_nowhere : Passed names (packed T b) (length names) → FindsBinding l T b None
    unfolding opener
    binding_nowhere p = nothing (λ j g o. let w = name_at j (record { space = T; base = b; target = g }) o.at in p.others j w.0 w.1)

    -- The first of that name, or none.
    pub binding_first : (r : Option ℕ) → MatchOption r (Passed names (packed T b) (length names)) (λ i. First names (packed T b) i) → FindsBinding l T b r
    binding_first None p = binding_nowhere p
    binding_first (Some i) f = binding_here i f.there f.here
