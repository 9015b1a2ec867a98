-- A table with its index, and where each of its bindings stands in its bytes.
use mathlib.Core.Path.{◌≡◌, sym, ◌∙◌, ap}
use Rattle.std.specs.Prelude.{List, ℕ, ◌≤◌, length}
use mathlib.Core.HLevel.{Σ_prop_path}
use Rattle.std.proofs.Props.{props}
use Rattle.rules.specs.Tables.{Target, to_key, to_name, NameTable}
use Rattle.rules.specs.Ranges.{GoodTarget, most_spaces, most_bindings}
use Rattle.records.specs.Parsed.{Parsed, got, bad, Reader}
use Rattle.records.specs.Bindings.{binding_record}
use Rattle.table.specs.Kept.{Standing, unbound}
use Rattle.sheet.specs.Finds.{Index}

pub record Known (t : NameTable) (s keys names places : List ℕ) : Type 0 where
  pub index : Index t keys names
  pub few_spaces : length keys ≤ most_spaces
  pub few_bindings : length names ≤ most_bindings
  pub room : length names ≤ length places
  pub standing : Standing (binding_record (length keys) unbound) s places t.bindings

-- ---- it can be known in one way only
abbrev end_of : {A : Type 0} → Parsed A → ℕ
end_of (got x n) = n
end_of (bad e) = 0

-- A record ends at one place.
ends_once : {A : Type 0} → IsSet (Parsed A) → (p : Parsed A) (x : A) → IsProp ((n : ℕ) × (p ≡ got x n))
ends_once is_set p x u v = Σ_prop_path (λ n. is_set p (got x n)) (sym (ap end_of u.1) ∙ ap end_of v.1)

pub Standing-prop : {A : Type 0} → IsSet (Parsed A) → (P : Reader A) (s places : List ℕ) (l : List A) → IsProp (Standing P s places l)
Standing-prop is_set P s places l = hlevel (ends_once is_set, props)

pub GoodTarget-prop : (spaces : ℕ) (g : Target) → IsProp (GoodTarget spaces g)
GoodTarget-prop spaces (to_key k) = hlevel props
GoodTarget-prop spaces (to_name S p) = hlevel props

pub Index-prop : (t : NameTable) (keys names : List ℕ) → IsProp (Index t keys names)
Index-prop t keys names = hlevel (GoodTarget-prop, props)

pub Known-prop : (t : NameTable) (s keys names places : List ℕ) → IsProp (Known t s keys names places)
Known-prop t s keys names places = hlevel (Index-prop t keys names, Standing-prop (hlevel props) (binding_record (length keys) unbound) s places t.bindings, props)
