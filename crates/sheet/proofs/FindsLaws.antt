-- What was found, and paths as code holds them.
use mathlib.Core.Path.{◌≡◌, refl, sym, ◌∙◌, ap, subst}
use mathlib.Core.List.{List, [], ◌∷◌}
use mathlib.Core.Option.{some-injective}
use Rattle.std.specs.Prelude.{Option, Some, None, IfSome}
use Prim.Native.Nat.{ℕ, zero, suc, ◌-◌, ◌<◌, ◌≤◌}
use native.Mathlib.Omega.{arith}
use lib.ListN.{length, take, get_or, length-map}
use Rattle.rules.specs.Tables.{Target, to_name, Binding, NameTable}
use Rattle.rules.specs.Ranges.{GoodNames}
use Rattle.rules.specs.Names.{IsSelf, Opens}
use Rattle.rules.specs.Following.{InSheet, NameLeads}
use Rattle.rules.specs.declared.Key.{Key}
use Rattle.rules.specs.declared.Space.{Space}
use Rattle.rules.proofs.RoundsLaws.{target_leads}
use Rattle.records.specs.Paths.{path_of}
use Rattle.records.specs.declared.paths.Path.{Path}
use Rattle.records.specs.declared.targets.Target.{Target as TargetValue}
use Rattle.records.specs.declared.targets.Target.TheVariants as as_target
use Rattle.table.proofs.FindingLaws.{space_here}
use Rattle.table.specs.Finding.{FindsSpace, has, nobody, FindsBinding, opens, keys_of}
use Rattle.table.specs.Finding.{nothing as unbound}
use Rattle.sheet.specs.Finds.{Finds, key, nothing, Index, Fitting, FittingTarget, rest_of}

-- ---- what was found
pub finds_key : {P : Key → Type 0} {r : Option Key} {k : Key} → Finds P r → r ≡ Some k → P k
finds_key {P} {k = k} (key m v) e = let q : m ≡ k = cc in subst P q v
finds_key (nothing f) e = let z : ◌≡◌ {A = ℕ} 0 1 = cc in absurd (omega arith)

pub finds_none : {P : Key → Type 0} {r : Option Key} → Finds P r → r ≡ None → (k : Key) → P k → ⊥
finds_none (key m v) e k w = let z : ◌≡◌ {A = ℕ} 0 1 = cc in absurd (omega arith)
finds_none (nothing f) e k w = f k w

-- A name leads to one key.
pub leads_one : (t : NameTable) → GoodNames t → (sheet : List ℕ) (S : Space) (p : List ℕ) (k m : Key) → NameLeads t (InSheet t sheet) S p k → NameLeads t (InSheet t sheet) S p m → k ≡ m
leads_one t good sheet S p k m v w = some-injective k m (sym ((target_leads t good sheet (to_name S p) k).1 v) ∙ (target_leads t good sheet (to_name S p) m).1 w)

-- ---- paths
pub path_none : (p : Path) → p.length ≡ 0 → path_of p ≡ []
path_none p e = ap (λ (n : ℕ). take n (p.first ∷ p.second ∷ p.third ∷ p.fourth ∷ [])) e

four : (m a b c d : ℕ) → m < 4 → take (suc m) (a ∷ b ∷ c ∷ d ∷ []) ≡ a ∷ take m (b ∷ c ∷ d ∷ 0 ∷ [])
four zero a b c d h = refl
four (suc zero) a b c d h = refl
four (suc (suc zero)) a b c d h = refl
four (suc (suc (suc zero))) a b c d h = refl
four (suc (suc (suc (suc m)))) a b c d h = absurd (omega arith)

pub path_first : (p : Path) → Fitting p → (p.length ≡ 0 → ⊥) → path_of p ≡ p.first ∷ path_of (rest_of p)
path_first p f some =
    let e : p.length ≡ suc (p.length - 1) = omega arith in
    ap (λ (n : ℕ). take n (p.first ∷ p.second ∷ p.third ∷ p.fourth ∷ [])) e ∙ four (p.length - 1) p.first p.second p.third p.fourth (omega (arith, f.short, some))

pub rest_fits : (p rest : Path) → rest ≡ rest_of p → Fitting p → Fitting rest
rest_fits p rest e f = subst Fitting (sym e) (fits_on p f)
  where
    fits_on : (p : Path) → Fitting p → Fitting (rest_of p)
    fits_on p f = record { short = omega (arith, f.short); first = f.second; second = f.third; third = f.fourth; fourth = omega arith }

-- ---- spaces and bindings that were found
pub space_has : {spaces : List Key} {k : Key} {r : Option Space} (S : Space) → FindsSpace spaces k r → r ≡ Some S → IsSelf spaces S k
space_has {spaces} {k} S (has T w) e = let q : T ≡ S = cc in subst (λ (U : Space). IsSelf spaces U k) q w
space_has S (nobody f) e = let z : ◌≡◌ {A = ℕ} 0 1 = cc in absurd (omega arith)

pub space_none : {spaces : List Key} {k : Key} {r : Option Space} → FindsSpace spaces k r → r ≡ None → (S : Space) → IsSelf spaces S k → ⊥
space_none (has T w) e = let z : ◌≡◌ {A = ℕ} 0 1 = cc in absurd (omega arith)
space_none (nobody f) e = f

pub binding_opens : {bindings : List Binding} {T : Space} {b : ℕ} {r : Option ℕ} (i : ℕ) → FindsBinding bindings T b r → r ≡ Some i → (g : Target) × Opens bindings T b i g
binding_opens {bindings} {T} {b} i (opens j g o) e = let q : j ≡ i = cc in (g, subst (λ (n : ℕ). Opens bindings T b n g) q o)
binding_opens i (unbound f) e = let z : ◌≡◌ {A = ℕ} 0 1 = cc in absurd (omega arith)

pub binding_none : {bindings : List Binding} {T : Space} {b : ℕ} {r : Option ℕ} → FindsBinding bindings T b r → r ≡ None → (i : ℕ) (g : Target) → Opens bindings T b i g → ⊥
binding_none (opens j g o) e = let z : ◌≡◌ {A = ℕ} 0 1 = cc in absurd (omega arith)
binding_none (unbound f) e = f

pub space_below : (keys : List ℕ) (k : Key) (r : Option Space) (S : Space) (most : ℕ) → length keys ≤ most → FindsSpace (keys_of keys) k r → r ≡ Some S → S.0 < most
space_below keys k r S most h f e = omega (arith, (space_has S f e).at.there, length-map {B = Key} keys (λ (n : ℕ). record { 0 = n }))

pub binding_below : (n : ℕ) (r : Option ℕ) (i most : ℕ) → n ≤ most → IfSome r (λ j. j < n) → r ≡ Some i → i < most
binding_below n r i most h b e = let l : i < n = subst (λ (o : Option ℕ). IfSome o (λ j. j < n)) e b in omega arith

-- ---- a whole name
-- A space has the key that stands at its number.
pub own_key : (t : NameTable) (keys names : List ℕ) → Index t keys names → (S : Space) → S.0 < length keys → IsSelf t.spaces S (record { 0 = get_or keys S.0 0 })
own_key t keys names index S h =
    let k : Key = record { 0 = get_or keys S.0 0 } in
    subst (λ (l : List Key). IsSelf l S k) index.spaces (space_has S (space_here keys k S.0 h refl) refl)

pub name-requires : (spaces : ℕ) (g : TargetValue) (S : Space) (p : Path) → g ≡ as_target.Name S p → FittingTarget spaces g → (S.0 < spaces) × Fitting p
name-requires spaces g S p e f = subst (FittingTarget spaces) e f
