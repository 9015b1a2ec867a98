-- The numbers of the bindings that a name goes through, listed; and with them a derivation for every grant at the greatest depth.
use mathlib.Core.Path.{◌≡◌, refl, sym, ◌∙◌, ap, subst}
use mathlib.Core.Logic.{◌⊎◌, inl, inr, ◌↔◌}
use mathlib.Core.List.{List, [], ◌∷◌}
use mathlib.Core.Option.{Option, none, some, bind, bind-eq-some_iff}
use Prim.Native.Nat.{ℕ}
use native.Mathlib.Omega.{arith}
use lib.ListN.{get_elem?}
use Rattle.rules.specs.Lists.{In}
use Rattle.rules.specs.Tables.{Path, Target, to_key, to_name, NameTable}
use Rattle.rules.specs.Names.{IsSelf, Through, TargetThrough}
use Rattle.rules.specs.Ranges.{GoodNames}
use Rattle.rules.specs.Sheets.{Exact}
use Rattle.rules.specs.Following.{InSheet, Leads, OpensAt, PathThrough}
use Rattle.rules.specs.Rounds.{find, has_key, is_for, opened}
use Rattle.rules.specs.Derivations.{with_some}
use Rattle.rules.specs.declared.Key.{Key}
use Rattle.rules.specs.declared.Space.{Space}
use Rattle.rules.proofs.ListsLaws.{some_at, at_some}
use Rattle.rules.proofs.NamesLaws.{means_home}
use Rattle.rules.proofs.ThroughLaws.{through_by_sheet}
use Rattle.rules.proofs.RoundsLaws.{space_hit, binding_hit, space_found, binding_found, opened_leads}

clash : {A : Type 0} {x : A} → none ≡ some x → ⊥
clash e = let z : ◌≡◌ {A = ℕ} 0 1 = cc in omega arith

in_some : (o : Option ℕ) (l : List ℕ) (i : ℕ) → In (with_some o l) i ↔ ((o ≡ some i) ⊎ In l i)
in_some none l i = (λ h. inr h, back)
  where
    back : (none ≡ some i) ⊎ In l i → In l i
    back (inl e) = absurd (clash e)
    back (inr h) = h
in_some (some x) l i = (to, from)
  where
    to : (x ≡ i) ⊎ In l i → (some x ≡ some i) ⊎ In l i
    to (inl e) = inl (ap some e)
    to (inr h) = inr h

    from : (some x ≡ some i) ⊎ In l i → (x ≡ i) ⊎ In l i
    from (inl e) = inl (cc)
    from (inr h) = inr h

number_at : NameTable → Key → ℕ → Option ℕ
number_at t k b = bind (find (has_key k) t.spaces) (λ s. find (is_for (record { 0 = s }) b) t.bindings)

path_numbers : NameTable → List ℕ → Key → Path → List ℕ
path_numbers t sheet k [] = []
path_numbers t sheet k (b ∷ p) = with_some (number_at t k b) (elim (opened t sheet k b) [ none ↦ [] | some m ↦ path_numbers t sheet m p ])

pub name_numbers : NameTable → List ℕ → Space → Path → List ℕ
name_numbers t sheet S p = elim (get_elem? t.spaces S.0) [ none ↦ [] | some k ↦ path_numbers t sheet k p ]

pub target_numbers : NameTable → List ℕ → Target → List ℕ
target_numbers t sheet (to_key k) = []
target_numbers t sheet (to_name S p) = name_numbers t sheet S p

module _ (t : NameTable) (good : GoodNames t) where
  number_opens : (k : Key) (b i : ℕ) → (number_at t k b ≡ some i) ↔ OpensAt t k b i
  unfolding number_at
  number_opens k b i = (to, from)
    where
      to : number_at t k b ≡ some i → OpensAt t k b i
      to e =
          let r = (bind-eq-some_iff (find (has_key k) t.spaces) (λ s. find (is_for (record { 0 = s }) b) t.bindings)).0 e in
          let o = binding_hit t (record { 0 = r.0 }) b i r.2 in
          record { space = record { 0 = r.0 }; is_self = space_hit t k r.0 r.1; target = o.0; opens = o.1 }

      from : OpensAt t k b i → number_at t k b ≡ some i
      from o = (bind-eq-some_iff (find (has_key k) t.spaces) (λ s. find (is_for (record { 0 = s }) b) t.bindings)).1
          (o.space.0, space_found t good o.space k o.is_self, binding_found t good o.space b i o.target o.opens)

  module _ (sheet : List ℕ) where
    path_numbers_lem : (p : Path) (k : Key) (i : ℕ) → In (path_numbers t sheet k p) i ↔ PathThrough t (InSheet t sheet) k p i
    unfolding path_numbers
    path_numbers_lem [] k i = (λ b. b, λ b. b)
    path_numbers_lem (b ∷ p) k i = go (opened t sheet k b) refl (λ m. path_numbers_lem p m i)
      where
        onward : Option Key → List ℕ
        onward o = elim o [ none ↦ [] | some m ↦ path_numbers t sheet m p ]

        go : (o : Option Key) → opened t sheet k b ≡ o → ((m : Key) → In (path_numbers t sheet m p) i ↔ PathThrough t (InSheet t sheet) m p i)
            → In (with_some (number_at t k b) (onward o)) i ↔ (OpensAt t k b i ⊎ ((m : Key) × Leads t (InSheet t sheet) k b m × PathThrough t (InSheet t sheet) m p i))
        go none e ih = (λ h. to ((in_some (number_at t k b) [] i).0 h), λ w. (in_some (number_at t k b) [] i).1 (from w))
          where
            to : (number_at t k b ≡ some i) ⊎ ⊥ → OpensAt t k b i ⊎ ((m : Key) × Leads t (InSheet t sheet) k b m × PathThrough t (InSheet t sheet) m p i)
            to (inl f) = inl ((number_opens k b i).0 f)
            to (inr x) = absurd x

            from : OpensAt t k b i ⊎ ((m : Key) × Leads t (InSheet t sheet) k b m × PathThrough t (InSheet t sheet) m p i) → (number_at t k b ≡ some i) ⊎ ⊥
            from (inl o) = inl ((number_opens k b i).1 o)
            from (inr w) = absurd (clash (sym e ∙ (opened_leads t good sheet k b w.0).1 w.1))
        go (some m) e ih = (λ h. to ((in_some (number_at t k b) (path_numbers t sheet m p) i).0 h), λ w. (in_some (number_at t k b) (path_numbers t sheet m p) i).1 (from w))
          where
            to : (number_at t k b ≡ some i) ⊎ In (path_numbers t sheet m p) i → OpensAt t k b i ⊎ ((m : Key) × Leads t (InSheet t sheet) k b m × PathThrough t (InSheet t sheet) m p i)
            to (inl f) = inl ((number_opens k b i).0 f)
            to (inr x) = inr (m, (opened_leads t good sheet k b m).0 e, (ih m).0 x)

            from : OpensAt t k b i ⊎ ((m : Key) × Leads t (InSheet t sheet) k b m × PathThrough t (InSheet t sheet) m p i) → (number_at t k b ≡ some i) ⊎ In (path_numbers t sheet m p) i
            from (inl o) = inl ((number_opens k b i).1 o)
            from (inr w) =
                let q : some m ≡ some w.0 = sym e ∙ (opened_leads t good sheet k b w.0).1 w.1 in
                inr ((ih m).1 (same m w.0 w.2 cc))
              where
                same : (m m' : Key) → PathThrough t (InSheet t sheet) m' p i → m ≡ m' → PathThrough t (InSheet t sheet) m p i
                same m m' w q = subst (λ (y : Key). PathThrough t (InSheet t sheet) y p i) (sym q) w

    module _ (ex : Exact t sheet) where
      pub name_numbers_lem : (S : Space) (p : Path) (i : ℕ) → In (name_numbers t sheet S p) i ↔ Through t S p i
      unfolding name_numbers
      name_numbers_lem S p i = go (get_elem? t.spaces S.0) refl
        where
          listed : Option Key → List ℕ
          listed o = elim o [ none ↦ [] | some k ↦ path_numbers t sheet k p ]

          go : (o : Option Key) → get_elem? t.spaces S.0 ≡ o → In (listed o) i ↔ Through t S p i
          go none e = (λ b. absurd b, λ w. absurd (clash (sym e ∙ at_some (means_home t w.means).1.at)))
          go (some k) e =
              let s : IsSelf t.spaces S k = record { at = some_at t.spaces S.0 k e } in
              let a = path_numbers_lem p k i in
              let b = through_by_sheet t good sheet ex s p i in
              (λ h. b.1 (a.0 h), λ w. a.1 (b.0 w))

      pub target_numbers_lem : (g : Target) (i : ℕ) → In (target_numbers t sheet g) i ↔ TargetThrough t g i
      unfolding target_numbers
      target_numbers_lem (to_key k) i = (λ b. b, λ b. b)
      target_numbers_lem (to_name S p) i = name_numbers_lem S p i
