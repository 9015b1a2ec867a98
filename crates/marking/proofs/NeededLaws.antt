-- Marking what is needed, from the last of an ordered list to the first. A binding's target goes through bindings listed before it, so what was passed
-- already is not wanted by what comes later.
use mathlib.Core.Path.{◌≡◌, refl, sym, ◌∙◌, subst}
use mathlib.Core.Logic.{◌⊎◌, inl, inr}
use mathlib.Core.Bool.{Bool, true}
use mathlib.Core.List.{List, [], ◌∷◌}
use Prim.Native.Nat.{ℕ, suc, ◌<◌, ◌≤◌}
use native.Mathlib.Omega.{arith}
use lib.ListN.{length, take, drop, get_or}
use lib.Seq.{drop-cons}
use Rattle.rules.specs.Lists.{At, In}
use Rattle.rules.specs.Tables.{Target, Binding, NameTable}
use Rattle.rules.specs.Names.{TargetThrough}
use Rattle.rules.specs.Ranges.{GoodNames}
use Rattle.rules.specs.Filling.{Filling}
use Rattle.rules.specs.Derivations.{MeansFrom}
use Rattle.rules.proofs.ListsLaws.{at_one}
use Rattle.rules.proofs.ThroughLaws.{target_means_listed}
use Rattle.table.proofs.FindingLaws.{at_below}
use Rattle.sheet.specs.Finds.{Index}
use Rattle.sheet.proofs.MeaningLaws.{index_bindings}
use Rattle.marking.specs.Marks.{marked, Adds}
use Rattle.marking.specs.Needed.{Listed, Wanted, Needed}
use Rattle.marking.proofs.MarksLaws.{adds_as}
use Rattle.marking.proofs.OrderLaws.{parts_apart, ordered_at}

-- ---- one binding
module _ (t : NameTable) (i : ℕ) (m : List Bool) where
  -- It is marked, and so is now whatever its target goes through.
  pub wants_these : (b : Bool) → b ≡ marked m i → b ≡ true → i < length t.bindings → (g : Target) → ((x : Binding) → At t.bindings i x → g ≡ x.target) → (after : List Bool)
      → Adds (TargetThrough t g) m after → Adds (Wanted t m i) m after
  wants_these b e f there g read after w = adds_as (λ j. (to j, back j)) w
    where
      to : (j : ℕ) → TargetThrough t g j → Wanted t m i j
      to j v =
          let x = at_below t.bindings i there in
          record { wanting = sym e ∙ f; binding = x.0; at = x.1; through = subst (λ (h : Target). TargetThrough t h j) (read x.0 x.1) v }

      back : (j : ℕ) → Wanted t m i j → TargetThrough t g j
      back j v = subst (λ (h : Target). TargetThrough t h j) (sym (read v.binding v.at)) v.through

-- ---- the listed ones from number `n` on are passed
pub record Passed (t : NameTable) (L : List ℕ) (before : List Bool) (n : ℕ) (marks : List Bool) : Type 0 where
  pub size : length marks ≡ length before
  pub most : n ≤ length L
  pub needed : Needed t (drop n L) before marks

module _ (t : NameTable) (good : GoodNames t) (sheet L : List ℕ) (f : Filling t sheet L) (n : ℕ) (h : n < length L) where
  its_meaning : MeansFrom t (take n L) (get_or L n 0)
  its_meaning = ordered_at t [] L f.ordered n h

  pub listed_there : get_or L n 0 < length t.bindings
  listed_there = its_meaning.at.there

  -- What its target goes through is not passed yet.
  pub not_passed : (m : List Bool) (j : ℕ) → Wanted t m (get_or L n 0) j → In (drop n L) j → ⊥
  not_passed m j w =
      let o = its_meaning in
      let v : TargetThrough t o.binding.target j = subst (λ (x : Binding). TargetThrough t x.target j) (at_one w.at o.at) w.through in
      parts_apart L f.none_twice n j (target_means_listed t good (take n L) o.binding.target o.key o.means j v)

  module _ (before m after : List Bool) (p : Needed t (drop (suc n) L) before m) (w : Adds (Wanted t m (get_or L n 0)) m after) where
    passed_more : Needed t (get_or L n 0 ∷ drop (suc n) L) before after
    passed_more = record { kept = λ j e. w.kept j (p.kept j e); closed = closed; why = λ j e. why j (w.only j e) }
      where
        -- What is passed was marked already.
        already : (l : ℕ) → In (get_or L n 0 ∷ drop (suc n) L) l → marked after l ≡ true → marked m l ≡ true
        already l a e = go (w.only l e)
          where
            go : (marked m l ≡ true) ⊎ Wanted t m (get_or L n 0) l → marked m l ≡ true
            go (inl q) = q
            go (inr v) = absurd (not_passed m l v (subst (λ (k : List ℕ). In k l) (sym (drop-cons L n 0 h)) a))

        closed : (l : ℕ) (x : Binding) → In (get_or L n 0 ∷ drop (suc n) L) l → marked after l ≡ true → At t.bindings l x → (j : ℕ) → TargetThrough t x.target j → marked after j ≡ true
        closed l x (inl q) e a j v =
            w.added j (record { wanting = rw q (already l (inl q) e); binding = x; at = rw q a; through = v })
        closed l x (inr b) e a j v = w.kept j (p.closed l x b (already l (inr b) e) a j v)

        later : (l j : ℕ) → Wanted t m l j → Wanted t after l j
        later l j v = record { wanting = w.kept l v.wanting; binding = v.binding; at = v.at; through = v.through }

        Reason : ℕ → Type 0
        Reason j = (marked before j ≡ true) ⊎ ((l : ℕ) × In (get_or L n 0 ∷ drop (suc n) L) l × Wanted t after l j)

        was : (j : ℕ) → (marked before j ≡ true) ⊎ ((l : ℕ) × In (drop (suc n) L) l × Wanted t m l j) → Reason j
        was j (inl e) = inl e
        was j (inr v) = inr (v.0, inr v.1, later v.0 j v.2)

        why : (j : ℕ) → (marked m j ≡ true) ⊎ Wanted t m (get_or L n 0) j → Reason j
        why j (inl e) = was j (p.why j e)
        why j (inr v) = inr (get_or L n 0, inl refl, later (get_or L n 0) j v)

-- ---- the listed one before those that are passed
module _ (t : NameTable) (good : GoodNames t) (sheet order : List ℕ) (all : Listed t sheet order) (n : ℕ) (there : n < length order) where
  pub number_there : (keys names : List ℕ) → Index t keys names → get_or order n 0 < length names
  number_there keys names index = omega (arith, listed_there t good sheet order all.filling n there, index_bindings t keys names index)

  pub passed_on : (before m after : List Bool) (left : ℕ) → left ≡ suc n → Passed t order before left m → length after ≡ length m → Adds (Wanted t m (get_or order n 0)) m after → Passed t order before n after
  passed_on before m after left e p same w = record {
    size = same ∙ p.size;
    most = omega (arith, p.most);
    needed = subst (λ (l : List ℕ). Needed t l before after) (sym (drop-cons order n 0 there))
        (passed_more t good sheet order all.filling n there before m after (subst (λ (i : ℕ). Needed t (drop i order) before m) e p.needed) w);
  }
