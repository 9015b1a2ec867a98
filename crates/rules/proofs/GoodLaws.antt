-- A test that a table is good, for tables that are written out.
use mathlib.Core.Path.{◌≡◌, refl, sym, ap}
use mathlib.Core.Bool.{Bool, true, false, ◌&&◌, not, false≢true}
use mathlib.Core.List.{List, [], ◌∷◌}
use Prim.Native.Nat.{ℕ, zero, suc}
use native.Mathlib.Nat.{not-suc-le-zero, le_of_suc-le-suc}
use borrow.Author.Tests.{ltb-true, leb-true, eq-eqb}
use lib.Dec.{eqb, leb, ltb}
use lib.ListN.{length}
use Rattle.rules.specs.Lists.{At}
use Rattle.rules.specs.Depths.{top}
use Rattle.rules.specs.Tables.{Path, Target, to_key, to_name, Binding, AccessRecord, Delegation, NameTable, Table}
use Rattle.rules.specs.Ranges.{Between, most_key, most_base, most_object, most_right, most_names, most_spaces, most_bindings, most_accesses, most_delegations, GoodPath, GoodTarget, GoodBinding, GoodAccess, GoodDelegation, GoodNames, Good}
use Rattle.rules.specs.declared.Key.{Key}
use Rattle.rules.specs.declared.Space.{Space}

both : (a b : Bool) → a && b ≡ true → (a ≡ true) × (b ≡ true)
both true b e = (refl, e)
both false b e = absurd (false≢true e)

module _ {A : Type 0} where
  abbrev pub every : (A → Bool) → List A → Bool
  every f [] = true
  every f (x ∷ l) = f x && every f l

  every_at : (f : A → Bool) (l : List A) → every f l ≡ true → (i : ℕ) (x : A) → At l i x → f x ≡ true
  every_at f [] e i x a = absurd (not-suc-le-zero a.there)
  every_at f (y ∷ l) e zero x a = rw a.is at (both (f y) (every f l) e).0
  every_at f (y ∷ l) e (suc i) x a = every_at f l (both (f y) (every f l) e).1 i x (record { there = le_of_suc-le-suc a.there; is = a.is })

  -- No two are the same.
  abbrev pub apart : (A → A → Bool) → List A → Bool
  apart f [] = true
  apart f (x ∷ l) = every (λ y. not (f x y && f y x)) l && apart f l

  apart_at : (f : A → A → Bool) (l : List A) → apart f l ≡ true → (i j : ℕ) (x y : A) → At l i x → At l j y → f x y ≡ true → f y x ≡ true → i ≡ j
  apart_at f [] e i j x y a b p q = absurd (not-suc-le-zero a.there)
  apart_at f (z ∷ l) e zero zero x y a b p q = refl
  apart_at f (z ∷ l) e zero (suc j) x y a b p q =
      let w = every_at (λ y. not (f z y && f y z)) l (both (every (λ y. not (f z y && f y z)) l) (apart f l) e).0 j y (record { there = le_of_suc-le-suc b.there; is = b.is }) in
      absurd (false≢true (rw (a.is, p, q) at w))
  apart_at f (z ∷ l) e (suc i) zero x y a b p q =
      let w = every_at (λ y. not (f z y && f y z)) l (both (every (λ y. not (f z y && f y z)) l) (apart f l) e).0 i x (record { there = le_of_suc-le-suc a.there; is = a.is }) in
      absurd (false≢true (rw (b.is, q, p) at w))
  apart_at f (z ∷ l) e (suc i) (suc j) x y a b p q =
      ap suc (apart_at f l (both (every (λ y. not (f z y && f y z)) l) (apart f l) e).1 i j x y (record { there = le_of_suc-le-suc a.there; is = a.is }) (record { there = le_of_suc-le-suc b.there; is = b.is }) p q)

abbrev between : ℕ → ℕ → ℕ → Bool
between low high n = leb low n && leb n high

is_between : (low high n : ℕ) → between low high n ≡ true → Between low high n
is_between low high n e = let w = both (leb low n) (leb n high) e in record { least = leb-true low n w.0; most = leb-true n high w.1 }

abbrev good_path : Path → Bool
good_path p = leb (length p) most_names && every (between 1 most_base) p

is_path : (p : Path) → good_path p ≡ true → GoodPath p
is_path p e =
    let w = both (leb (length p) most_names) (every (between 1 most_base) p) e in
    record { short = leb-true (length p) most_names w.0; bases = λ i b a. is_between 1 most_base b (every_at (between 1 most_base) p w.1 i b a) }

abbrev good_target : ℕ → Target → Bool
good_target n (to_key k) = between 1 most_key k.0
good_target n (to_name S p) = ltb S.0 n && good_path p

is_target : (n : ℕ) (g : Target) → good_target n g ≡ true → GoodTarget n g
is_target n (to_key k) e = is_between 1 most_key k.0 e
is_target n (to_name S p) e = let w = both (ltb S.0 n) (good_path p) e in (ltb-true S.0 n w.0, is_path p w.1)

abbrev good_binding : ℕ → Binding → Bool
good_binding n x = ltb x.space.0 n && (between 1 most_base x.base && good_target n x.target)

is_binding : (n : ℕ) (x : Binding) → good_binding n x ≡ true → GoodBinding n x
is_binding n x e =
    let w = both (ltb x.space.0 n) _ e in
    let u = both (between 1 most_base x.base) (good_target n x.target) w.1 in
    record { space = ltb-true x.space.0 n w.0; base = is_between 1 most_base x.base u.0; target = is_target n x.target u.1 }

abbrev good_access : ℕ → AccessRecord → Bool
good_access n x = ltb x.owner.0 n && (leb x.object most_object && (between 1 most_right x.right && (good_path x.path && leb x.depth top)))

is_access : (n : ℕ) (x : AccessRecord) → good_access n x ≡ true → GoodAccess n x
is_access n x e =
    let a = both (ltb x.owner.0 n) _ e in
    let b = both (leb x.object most_object) _ a.1 in
    let c = both (between 1 most_right x.right) _ b.1 in
    let d = both (good_path x.path) (leb x.depth top) c.1 in
    record {
      owner = ltb-true x.owner.0 n a.0;
      object = leb-true x.object most_object b.0;
      right = is_between 1 most_right x.right c.0;
      path = is_path x.path d.0;
      depth = leb-true x.depth top d.1;
    }

abbrev good_delegation : ℕ → Delegation → Bool
good_delegation n x =
    ltb x.writer.0 n
    && (good_path x.owner_path && (leb x.object most_object && (between 1 most_right x.right && (good_path x.delegatee_path && leb x.depth top))))

is_delegation : (n : ℕ) (x : Delegation) → good_delegation n x ≡ true → GoodDelegation n x
is_delegation n x e =
    let a = both (ltb x.writer.0 n) _ e in
    let p = both (good_path x.owner_path) _ a.1 in
    let b = both (leb x.object most_object) _ p.1 in
    let c = both (between 1 most_right x.right) _ b.1 in
    let d = both (good_path x.delegatee_path) (leb x.depth top) c.1 in
    record {
      writer = ltb-true x.writer.0 n a.0;
      owner_path = is_path x.owner_path p.0;
      object = leb-true x.object most_object b.0;
      right = is_between 1 most_right x.right c.0;
      delegatee_path = is_path x.delegatee_path d.0;
      depth = leb-true x.depth top d.1;
    }

abbrev same_key : Key → Key → Bool
same_key a b = eqb a.0 b.0

abbrev same_name : Binding → Binding → Bool
same_name x y = eqb x.space.0 y.space.0 && eqb x.base y.base

abbrev good_names : NameTable → Bool
good_names t =
    every (λ (k : Key). between 1 most_key k.0) t.spaces
    && (apart same_key t.spaces && (every (good_binding (length t.spaces)) t.bindings && apart same_name t.bindings))

is_names : (t : NameTable) → good_names t ≡ true → GoodNames t
is_names t e =
    let a = both (every (λ (k : Key). between 1 most_key k.0) t.spaces) _ e in
    let b = both (apart same_key t.spaces) _ a.1 in
    let c = both (every (good_binding (length t.spaces)) t.bindings) (apart same_name t.bindings) b.1 in
    record {
      keys = λ S k s. is_between 1 most_key k.0 (every_at (λ (k : Key). between 1 most_key k.0) t.spaces a.0 S.0 k s.at);
      keys_apart = λ S T k s u. λ d. record { 0 = apart_at same_key t.spaces b.0 S.0 T.0 k k s.at u.at (eq-eqb k.0 k.0 refl) (eq-eqb k.0 k.0 refl) d };
      bindings = λ i x h. is_binding (length t.spaces) x (every_at (good_binding (length t.spaces)) t.bindings c.0 i x h);
      bound_once = λ i j x y h g p q. apart_at same_name t.bindings c.1 i j x y h g (named x y p q) (named y x (sym p) (sym q));
    }
  where
    named : (x y : Binding) → x.space ≡ y.space → x.base ≡ y.base → same_name x y ≡ true
    named x y p q = rw (eq-eqb x.space.0 y.space.0 (ap (λ (S : Space). S.0) p)) (eq-eqb x.base y.base q)

abbrev pub good_table : Table → Bool
good_table t =
    good_names t.names
    && (every (good_access (length t.names.spaces)) t.accesses
    && (every (good_delegation (length t.names.spaces)) t.delegations
    && (leb (length t.names.spaces) most_spaces
    && (leb (length t.names.bindings) most_bindings && (leb (length t.accesses) most_accesses && leb (length t.delegations) most_delegations)))))

-- A table that passes is good.
pub is_good : (t : Table) → good_table t ≡ true → Good t
is_good t e =
    let a = both (good_names t.names) _ e in
    let b = both (every (good_access (length t.names.spaces)) t.accesses) _ a.1 in
    let c = both (every (good_delegation (length t.names.spaces)) t.delegations) _ b.1 in
    let d = both (leb (length t.names.spaces) most_spaces) _ c.1 in
    let f = both (leb (length t.names.bindings) most_bindings) _ d.1 in
    let g = both (leb (length t.accesses) most_accesses) (leb (length t.delegations) most_delegations) f.1 in
    record {
      names = is_names t.names a.0;
      accesses = λ i x h. is_access (length t.names.spaces) x (every_at (good_access (length t.names.spaces)) t.accesses b.0 i x h);
      delegations = λ j x h. is_delegation (length t.names.spaces) x (every_at (good_delegation (length t.names.spaces)) t.delegations c.0 j x h);
      few_spaces = leb-true (length t.names.spaces) most_spaces d.0;
      few_bindings = leb-true (length t.names.bindings) most_bindings f.0;
      few_accesses = leb-true (length t.accesses) most_accesses g.0;
      few_delegations = leb-true (length t.delegations) most_delegations g.1;
    }
