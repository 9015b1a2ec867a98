-- Marking what a path goes through, name by name.
use mathlib.Core.Path.{◌≡◌, refl, sym, ap, subst}
use mathlib.Core.Logic.{◌⊎◌, inl, inr}
use mathlib.Core.Bool.{Bool, true}
use mathlib.Core.List.{List, ◌∷◌}
use Prim.Native.Nat.{ℕ, ◌<◌}
use native.Mathlib.Omega.{arith}
use lib.ListN.{length, set, get_or}
use Rattle.std.specs.Prelude.{Option, Some, None}
use Rattle.rules.specs.Tables.{Target, NameTable}
use Rattle.rules.specs.Names.{IsSelf, Opens, Through}
use Rattle.rules.specs.Sheets.{entry, Exact}
use Rattle.rules.specs.Following.{InSheet, Leads, OpensAt, PathThrough}
use Rattle.rules.specs.declared.Key.{Key}
use Rattle.rules.specs.declared.Space.{Space}
use Rattle.rules.proofs.NamesLaws.{opens_one}
use Rattle.rules.proofs.ThroughLaws.{through_by_sheet}
use Rattle.records.specs.Paths.{path_of}
use Rattle.records.specs.declared.paths.Path.{Path}
use Rattle.table.specs.Finding.{FindsSpace, keys_of, FindsNamed}
use Rattle.sheet.specs.Finds.{Index, Fitting, rest_of}
use Rattle.sheet.proofs.FindsLaws.{path_first, space_has, binding_opens, binding_none, own_key}
use Rattle.marking.specs.Marks.{Adds}
use Rattle.marking.proofs.MarksLaws.{adds_none, adds_one, adds_then, adds_as}

-- ---- one name of a path
module _ (t : NameTable) (keys names sheet : List ℕ) (index : Index t keys names) (k : Key) (p : Path) (fits : Fitting p) (m : List Bool) where
  abbrev pub Marks : List Bool → Type 0
  Marks after = Adds (PathThrough t (InSheet t sheet) k (path_of p)) m after

  module _ (some : p.length ≡ 0 → ⊥) where
    -- The path, by its first name and the rest.
    abbrev ByFirst : ℕ → Type 0
    ByFirst i = PathThrough t (InSheet t sheet) k (p.first ∷ path_of (rest_of p)) i

    by_first : (after : List Bool) → Adds ByFirst m after → Marks after
    by_first after w = subst (λ (q : List ℕ). Adds (PathThrough t (InSheet t sheet) k q) m after) (sym (path_first p fits some)) w

    -- It goes through nothing where its first name opens nothing.
    leads_open : (n : Key) (w : Leads t (InSheet t sheet) k p.first n) → OpensAt t k p.first w.number
    leads_open n w = record { space = w.space; is_self = w.is_self; target = w.target; opens = w.opens }

    opens_none : ((i : ℕ) → OpensAt t k p.first i → ⊥) → Marks m
    opens_none none = by_first m (adds_none m go)
      where
        go : (i : ℕ) → ByFirst i → ⊥
        go i (inl o) = none i o
        go i (inr w) = none w.1.number (leads_open w.0 w.1)

    module _ (r : Option Space) (f : FindsSpace (keys_of keys) k r) where
      module _ (S : Space) (e : r ≡ Some S) (q : Option ℕ) (g : FindsNamed names S p.first q) where
        its_self : IsSelf t.spaces S k
        its_self = subst (λ (l : List Key). IsSelf l S k) index.spaces (space_has S f e)

        its_opens : (i : ℕ) (o : OpensAt t k p.first i) → Opens t.bindings S p.first i o.target
        its_opens i o = subst (λ (T : Space). Opens t.bindings T p.first i o.target) (index.good.keys_apart o.space S k o.is_self its_self) o.opens

        pub no_binding : q ≡ None → Marks m
        no_binding n = opens_none (λ i o. binding_none (g t.bindings index.bindings) n i o.target (its_opens i o))

        module _ (i : ℕ) (n : q ≡ Some i) (there : i < length m) where
          opened : (x : Target) × Opens t.bindings S p.first i x
          opened = binding_opens i (g t.bindings index.bindings) n

          here : (j : ℕ) → i ≡ j → OpensAt t k p.first j
          here j e = record { space = S; is_self = its_self; target = opened.0; opens = subst (λ (l : ℕ). Opens t.bindings S p.first l opened.0) e opened.1 }

          -- The first name opens this binding and no other.
          this : (j : ℕ) → OpensAt t k p.first j → i ≡ j
          this j o = (opens_one t index.good opened.1 (its_opens j o)).0

          its_entry : (x : Key) → Leads t (InSheet t sheet) k p.first x → InSheet t sheet i x
          its_entry x w = subst (λ (j : ℕ). InSheet t sheet j x) (sym (this w.number (leads_open x w))) w.gives

          pub stops_there : entry sheet i ≡ 0 → Marks (set m i true)
          stops_there z = by_first (set m i true) (adds_as (λ j. (λ e. inl (here j e), back j)) (adds_one m i there))
            where
              back : (j : ℕ) → ByFirst j → i ≡ j
              back j (inl o) = this j o
              back j (inr w) = let v = its_entry w.0 w.1 in absurd (omega (arith, z, v.is, v.some))

          pub goes_on : (entry sheet i ≡ 0 → ⊥) → (rest : Path) → rest ≡ rest_of p → (after : List Bool)
              → Adds (PathThrough t (InSheet t sheet) (record { 0 = entry sheet i }) (path_of rest)) (set m i true) after → Marks after
          goes_on h rest z after w = by_first after (adds_as (λ j. (to j, back j)) (adds_then (adds_one m i there) on))
            where
              next : Key
              next = record { 0 = entry sheet i }

              OnFrom : Key → ℕ → Type 0
              OnFrom x j = PathThrough t (InSheet t sheet) x (path_of (rest_of p)) j

              on : Adds (OnFrom next) (set m i true) after
              on = subst (λ (y : Path). Adds (PathThrough t (InSheet t sheet) next (path_of y)) (set m i true) after) z w

              leads : Leads t (InSheet t sheet) k p.first next
              leads = record {
                space = S;
                is_self = its_self;
                number = i;
                target = opened.0;
                opens = opened.1;
                gives = record { there = opened.1.at.there; is = refl; some = omega (arith, h) };
              }

              to : (j : ℕ) → (i ≡ j) ⊎ OnFrom next j → ByFirst j
              to j (inl e) = inl (here j e)
              to j (inr v) = inr (next, leads, v)

              back : (j : ℕ) → ByFirst j → (i ≡ j) ⊎ OnFrom next j
              back j (inl o) = inl (this j o)
              back j (inr v) = inr (subst (λ (x : Key). OnFrom x j) (sym (ap (λ (l : ℕ). record { 0 = l }) (its_entry v.0 v.1).is)) v.2)

-- ---- a whole name
pub name_marked : (t : NameTable) (keys names sheet : List ℕ) → Index t keys names → Exact t sheet → (S : Space) (p : List ℕ) → S.0 < length keys → (m after : List Bool)
    → Adds (PathThrough t (InSheet t sheet) (record { 0 = get_or keys S.0 0 }) p) m after → Adds (Through t S p) m after
name_marked t keys names sheet index exact S p h m after w =
    adds_as (λ i. let e = through_by_sheet t index.good sheet exact (own_key t keys names index S h) p i in (e.1, e.0)) w

-- ---- a whole target
