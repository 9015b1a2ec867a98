-- What the target of a binding leads to, read from where the binding stands.
use mathlib.Core.Path.{◌≡◌, refl, sym, ◌∙◌, ap, subst}
use mathlib.Core.List.{List, [], ◌∷◌}
use Prim.Native.Nat.{ℕ, zero, suc, ◌<◌, ◌≤◌}
use Rattle.std.specs.Prelude.{Option, Result, Ok, Err}
use native.Mathlib.Omega.{arith}
use lib.ListN.{length, take, get_or, length-map}
use Rattle.rules.specs.Lists.{At}
use Rattle.rules.specs.Tables.{Path, Target, to_key, to_name, Binding, NameTable}
use Rattle.rules.specs.Ranges.{GoodPath, GoodTarget}
use Rattle.rules.specs.declared.Key.{Key}
use Rattle.rules.proofs.ListsLaws.{at_head, at_tail}
use Rattle.records.specs.Parsed.{found_as}
use Rattle.records.specs.Paths.{path_of, path_value}
use Rattle.records.specs.Targets.{target_of, target_value}
use Rattle.records.specs.Bindings.{binding_record, binding_value, packed}
use Rattle.records.specs.Rows.{is_among}
use Rattle.records.specs.declared.faults.Fault.{Fault}
use Rattle.records.specs.declared.targets.Target.{Target as TargetValue}
use Rattle.records.specs.declared.bindings.Binding.{Binding as BindingValue}
use Rattle.records.proofs.RecordsForm.{binding_walks}
use Rattle.table.specs.Kept.{unbound}
use Rattle.table.proofs.LoadingLaws.{rest, there_back}
use Rattle.table.proofs.FindingLaws.{at_below}
use Rattle.sheet.specs.Finds.{Index, Fitting, FittingTarget}
use Rattle.sheet.specs.Walks.{Walks, for_now}
use Rattle.sheet.specs.Known.{Known}
use Rattle.sheet.specs.Listings.{Opening, Leading}
use Rattle.sheet.specs.declared.following.Walked.{Walked}
use Rattle.sheet.proofs.WalksLaws.{found_now}

-- ---- paths and targets as code holds them
-- A name of the path, or 0 where there is none, is below 65,536.
base_fits : (p : Path) → GoodPath p → (i : ℕ) → get_or p i 0 < 65536
base_fits p g i = go p (λ j b a. omega (arith, (g.bases j b a).most)) i
  where
    go : (p : Path) → ((j b : ℕ) → At p j b → b < 65536) → (i : ℕ) → get_or p i 0 < 65536
    go [] f i = omega arith
    go (b ∷ p) f zero = f 0 b at_head
    go (b ∷ p) f (suc i) = go p (λ j c a. f (suc j) c (at_tail a)) i

pub path_fits : (p : Path) → GoodPath p → Fitting (path_value p)
path_fits p g = record { short = omega (arith, g.short); first = base_fits p g 0; second = base_fits p g 1; third = base_fits p g 2; fourth = base_fits p g 3 }

pub target_fits : (spaces : ℕ) (g : Target) → GoodTarget spaces g → FittingTarget spaces (target_value g)
target_fits spaces (to_key k) w = tt
target_fits spaces (to_name S p) w = (w.0, path_fits p w.1)

pub path_back : (p : Path) → length p ≤ 4 → path_of (path_value p) ≡ p
path_back [] h = refl
path_back (a ∷ []) h = refl
path_back (a ∷ b ∷ []) h = refl
path_back (a ∷ b ∷ c ∷ []) h = refl
path_back (a ∷ b ∷ c ∷ d ∷ []) h = refl
path_back (a ∷ b ∷ c ∷ d ∷ e ∷ p) h = absurd (omega arith)

pub target_back : (spaces : ℕ) (g : Target) → GoodTarget spaces g → target_of (target_value g) ≡ g
target_back spaces (to_key k) w = refl
target_back spaces (to_name S p) w = ap (to_name S) (path_back p w.1.short)

-- ---- the index
pub index_spaces : (t : NameTable) (keys names : List ℕ) → Index t keys names → length t.spaces ≡ length keys
index_spaces t keys names index = sym (ap length index.spaces) ∙ length-map {B = Key} keys (λ (n : ℕ). record { 0 = n })

pub index_bindings : (t : NameTable) (keys names : List ℕ) → Index t keys names → length t.bindings ≡ length names
index_bindings t keys names index = sym (length-map t.bindings (λ (x : Binding). packed x.space x.base)) ∙ ap length index.bindings.same

-- ---- the binding
module _ (t : NameTable) (s keys names places : List ℕ) (known : Known t s keys names places) (i : ℕ) (h : i < length names) where
  pub place_within : get_or places i 0 ≤ length s
  place_within = known.standing.within i (omega (arith, index_bindings t keys names known.index))

  module _ (r : Result (BindingValue × ℕ) Fault) (found : r ≡ found_as binding_value (binding_record (length keys) (λ S b. is_among (take 0 names) (packed S b)) (rest s (get_or places i 0)) 0)) where
    pub binding_reads : (x : Binding) → At t.bindings i x → (n : ℕ) × (r ≡ Ok (binding_value x, n))
    unfolding is_among
    binding_reads x a =
        let w = known.standing.stands i x a in
        let b = there_back (λ earlier. binding_record (length keys) unbound) (λ earlier. binding_walks (length keys) unbound) s [] (get_or places i 0) place_within x w.0 w.1 in
        (b.0, found ∙ ap (found_as binding_value) b.1)

    pub no_fault : (f : Fault) → r ≡ Err f → ⊥
    no_fault f e =
        let x = at_below t.bindings i (omega (arith, index_bindings t keys names known.index)) in
        let w = binding_reads x.0 x.1 in
        let q : ◌≡◌ {A = Result (BindingValue × ℕ) Fault} (Ok (binding_value x.0, w.0)) (Err f) = sym w.1 ∙ e in
        let z : ◌≡◌ {A = ℕ} 0 1 = cc in
        absurd (omega arith)

    module _ (v : BindingValue) (n : ℕ) (e : r ≡ Ok (v, n)) where
      is_value : (x : Binding) → At t.bindings i x → v.target ≡ target_value x.target
      is_value x a =
          let w = binding_reads x a in
          let q : ◌≡◌ {A = Result (BindingValue × ℕ) Fault} (Ok (binding_value x, w.0)) (Ok (v, n)) = sym w.1 ∙ e in
          let t : ◌≡◌ {A = BindingValue × ℕ} (binding_value x, w.0) (v, n) = cc q in
          let y : binding_value x ≡ v = ap (λ z. z.0) t in
          sym (ap (λ (b : BindingValue). b.target) y)

      pub target_fitting : FittingTarget (length keys) v.target
      target_fitting =
          let x = at_below t.bindings i (omega (arith, index_bindings t keys names known.index)) in
          let g = (known.index.good.bindings i x.0 x.1).target in
          subst (λ (m : TargetValue). FittingTarget (length keys) m) (sym (is_value x.0 x.1))
          (target_fits (length keys) x.0.target (subst (λ (m : ℕ). GoodTarget m x.0.target) (index_spaces t keys names known.index) g))

      pub target_read_lem : (x : Binding) → At t.bindings i x → target_of v.target ≡ x.target
      target_read_lem x a = ap target_of (is_value x a) ∙ target_back (length t.spaces) x.target (known.index.good.bindings i x a).target

      pub leads_so : (sheet : List ℕ) (a : Walked) → Walks t sheet (target_of v.target) a → Opening t sheet i a
      leads_so sheet a w = record { walks = λ x b. subst (λ (g : Target). Walks t sheet g a) (target_read_lem x b) w }

pub leads_now : (t : NameTable) (sheet : List ℕ) (i : ℕ) (w : Walked) (r : Option Key) → r ≡ for_now w → Opening t sheet i w → Leading t sheet i r
leads_now t sheet i w r e o = record { finds = λ x a. found_now t sheet x.target w r e (o.walks x a) }
