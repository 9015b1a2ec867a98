-- Of an ordered list of bindings, those that something needs are an ordered list.
use mathlib.Core.Path.{◌≡◌, refl, sym, ◌∙◌, ap, subst}
use mathlib.Core.Bool.{Bool, true, false, false≢true}
use mathlib.Core.Logic.{◌⊎◌, inl, inr, ◌↔◌}
use mathlib.Core.List.{List, [], ◌∷◌, ◌++◌, append_assoc, append-nil}
use Prim.Native.Nat.{ℕ}
use borrow.Author.Tests.{eqb-true, eq-eqb}
use lib.Dec.{eqb}
use Rattle.rules.specs.Choice.{pick}
use Rattle.rules.specs.Lists.{At, ◌▷◌, In, NoneTwice, keep}
use Rattle.rules.specs.Tables.{Binding, NameTable}
use Rattle.rules.specs.Names.{TargetThrough}
use Rattle.rules.specs.Ranges.{GoodNames}
use Rattle.rules.specs.Derivations.{MeansFrom, OrderedAfter}
use Rattle.rules.proofs.ListsLaws.{in_snoc, in_left, in_right, in_either}
use Rattle.rules.proofs.ListedLaws.{target_only, target_only_more}
use Rattle.rules.proofs.ThroughLaws.{AllMean, target_listed_means, target_means_listed}

-- ---- keeping the elements that pass a test
module _ (f : ℕ → Bool) where
  pub keep_in : (l : List ℕ) (x : ℕ) → In (keep f l) x ↔ (In l x × (f x ≡ true))
  keep_in [] x = (λ b. absurd b, λ h. absurd h.0)
  keep_in (y ∷ l) x = go (f y) refl (keep_in l x)
    where
      go : (b : Bool) → f y ≡ b → In (keep f l) x ↔ (In l x × (f x ≡ true)) → In (pick b (y ∷ keep f l) (keep f l)) x ↔ (((y ≡ x) ⊎ In l x) × (f x ≡ true))
      go true e ih = (to, from)
        where
          to : (y ≡ x) ⊎ In (keep f l) x → ((y ≡ x) ⊎ In l x) × (f x ≡ true)
          to (inl q) = (inl q, rw q at e)
          to (inr m) = let r = ih.0 m in (inr r.0, r.1)

          from : ((y ≡ x) ⊎ In l x) × (f x ≡ true) → (y ≡ x) ⊎ In (keep f l) x
          from h = pass h.0
            where
              pass : (y ≡ x) ⊎ In l x → (y ≡ x) ⊎ In (keep f l) x
              pass (inl q) = inl q
              pass (inr m) = inr (ih.1 (m, h.1))
      go false e ih = (λ m. let r = ih.0 m in (inr r.0, r.1), from)
        where
          from : ((y ≡ x) ⊎ In l x) × (f x ≡ true) → In (keep f l) x
          from h = pass h.0
            where
              pass : (y ≡ x) ⊎ In l x → In (keep f l) x
              pass (inl q) = absurd (false≢true (sym e ∙ ap f q ∙ h.1))
              pass (inr m) = ih.1 (m, h.1)

  pub keep_twice : (l : List ℕ) → NoneTwice l → NoneTwice (keep f l)
  keep_twice [] h = tt
  keep_twice (y ∷ l) h = go (f y) (keep_twice l h.1)
    where
      go : (b : Bool) → NoneTwice (keep f l) → NoneTwice (pick b (y ∷ keep f l) (keep f l))
      go true r = (λ m. h.0 ((keep_in l y).0 m).0, r)
      go false r = r

  pub keep_snoc : (l : List ℕ) (x : ℕ) → keep f (l ▷ x) ≡ pick (f x) (keep f l ▷ x) (keep f l)
  keep_snoc [] x = refl
  keep_snoc (y ∷ l) x = go (f y) (f x) (keep_snoc l x)
    where
      go : (b c : Bool) → keep f (l ▷ x) ≡ pick c (keep f l ▷ x) (keep f l) → pick b (y ∷ keep f (l ▷ x)) (keep f (l ▷ x)) ≡ pick c (pick b (y ∷ keep f l) (keep f l) ▷ x) (pick b (y ∷ keep f l) (keep f l))
      go true true e = ap (λ (m : List ℕ). y ∷ m) e
      go true false e = ap (λ (m : List ℕ). y ∷ m) e
      go false true e = e
      go false false e = e

-- ---- an ordered list, cut down to what is closed under need, is ordered
module _ (t : NameTable) (good : GoodNames t) where
  -- Whatever a listed binding that passes goes through passes too.
  abbrev pub ClosedUnderNeed : (ℕ → Bool) → List ℕ → Type 0
  ClosedUnderNeed f L = (i : ℕ) (x : Binding) → In L i → f i ≡ true → At t.bindings i x → (j : ℕ) → TargetThrough t x.target j → f j ≡ true

  kept_means : (f : ℕ → Bool) (B : List ℕ) (i : ℕ) → AllMean t good (keep f B)
      → ((x : Binding) → At t.bindings i x → (j : ℕ) → TargetThrough t x.target j → f j ≡ true) → MeansFrom t B i → MeansFrom t (keep f B) i
  kept_means f B i all closed w = record {
    binding = w.binding;
    at = w.at;
    key = w.key;
    means = target_listed_means t good (keep f B) all w.binding.target w.key (target_only t B w.binding.target w.key w.means)
        (λ j h. (keep_in f B j).1 (target_means_listed t good B w.binding.target w.key w.means j h, closed w.binding w.at j h));
  }

  means_from_more : (L M : List ℕ) → ((i : ℕ) → In L i → In M i) → (i : ℕ) → MeansFrom t L i → MeansFrom t M i
  means_from_more L M sub i w = record { binding = w.binding; at = w.at; key = w.key; means = target_only_more t L M sub w.binding.target w.key w.means }

  all_mean_snoc : (L : List ℕ) (i : ℕ) → AllMean t good L → MeansFrom t L i → AllMean t good (L ▷ i)
  all_mean_snoc L i all w j h = go (in_snoc L i j h)
    where
      go : In L j ⊎ (i ≡ j) → MeansFrom t (L ▷ i) j
      go (inl m) = means_from_more L (L ▷ i) (λ x y. in_left L (i ∷ []) x y) j (all j m)
      go (inr e) = means_from_more L (L ▷ i) (λ x y. in_left L (i ∷ []) x y) j (rw e at w)

  pub ordered_all_mean : (B L : List ℕ) → AllMean t good B → OrderedAfter t B L → AllMean t good (B ++ L)
  ordered_all_mean B [] all o = rw append-nil all
  ordered_all_mean B (i ∷ L) all o =
      subst (λ (M : List ℕ). AllMean t good M) (append_assoc B (i ∷ []) L) (ordered_all_mean (B ▷ i) L (all_mean_snoc B i all o.0) o.1)

  pub keep_ordered : (f : ℕ → Bool) (B L : List ℕ) → AllMean t good (keep f B) → ClosedUnderNeed f L → OrderedAfter t B L → OrderedAfter t (keep f B) (keep f L)
  keep_ordered f B [] all closed o = tt
  keep_ordered f B (i ∷ L) all closed o = go (f i) refl (keep_snoc f B i) (λ a. keep_ordered f (B ▷ i) L a (λ j x h. closed j x (inr h)) o.1)
    where
      go : (b : Bool) → f i ≡ b → keep f (B ▷ i) ≡ pick (f i) (keep f B ▷ i) (keep f B) → (AllMean t good (keep f (B ▷ i)) → OrderedAfter t (keep f (B ▷ i)) (keep f L))
          → OrderedAfter t (keep f B) (pick b (i ∷ keep f L) (keep f L))
      go true e q rec =
          let u : keep f (B ▷ i) ≡ keep f B ▷ i = rw e at q in
          let w = kept_means f B i all (λ x a j h. closed i x (inl refl) e a j h) o.0 in
          (w, rw u at (rec (rw u (all_mean_snoc (keep f B) i all w))))
      go false e q rec =
          let u : keep f (B ▷ i) ≡ keep f B = rw e at q in
          rw u at (rec (rw u all))

-- ---- what is needed, found by going once backwards through the list
pub among : List ℕ → ℕ → Bool
among [] x = false
among (y ∷ l) x = pick (eqb y x) true (among l x)

pub among_in : (l : List ℕ) (x : ℕ) → (among l x ≡ true) ↔ In l x
unfolding among
among_in [] x = (λ e. absurd (false≢true e), λ b. absurd b)
among_in (y ∷ l) x = go (eqb y x) refl (among_in l x)
  where
    go : (b : Bool) → eqb y x ≡ b → (among l x ≡ true) ↔ In l x → (pick b true (among l x) ≡ true) ↔ ((y ≡ x) ⊎ In l x)
    go true e ih = (λ q. inl (eqb-true y x e), λ h. refl)
    go false e ih = (λ q. inr (ih.0 q), back)
      where
        back : (y ≡ x) ⊎ In l x → among l x ≡ true
        back (inl q) = absurd (false≢true (sym e ∙ eq-eqb y x q))
        back (inr m) = ih.1 m

module _ (N : ℕ → List ℕ) where
  -- `N i` are the numbers that binding `i` goes through. From what is wanted, the last of the list first, what those that are wanted want.
  pub wants : List ℕ → List ℕ → List ℕ
  wants W [] = W
  wants W (i ∷ L) = pick (among (wants W L) i) (N i ++ wants W L) (wants W L)

  -- Nothing goes through itself or a later one of the list.
  abbrev pub Earlier : List ℕ → Type 0
  Earlier [] = Unit {0}
  Earlier (i ∷ L) = ((j : ℕ) → In (N i) j → In (i ∷ L) j → ⊥) × Earlier L

  pub wants_more : (W L : List ℕ) (j : ℕ) → In W j → In (wants W L) j
  unfolding wants
  wants_more W [] j h = h
  wants_more W (i ∷ L) j h = go (among (wants W L) i) (wants_more W L j h)
    where
      go : (b : Bool) → In (wants W L) j → In (pick b (N i ++ wants W L) (wants W L)) j
      go true m = in_right (N i) (wants W L) j m
      go false m = m

  -- Whatever is wanted was wanted at first, or a listed one that is wanted goes through it.
  pub record WantedBy (F L : List ℕ) (j : ℕ) : Type 0 where
    pub by : ℕ
    pub listed : In L by
    pub wanted : In F by
    pub through : In (N by) j

  by_more : (F G L : List ℕ) (i j : ℕ) → ((m : ℕ) → In F m → In G m) → WantedBy F L j → WantedBy G (i ∷ L) j
  by_more F G L i j sub w = record { by = w.by; listed = inr w.listed; wanted = sub w.by w.wanted; through = w.through }

  pub wants_why : (W L : List ℕ) (j : ℕ) → In (wants W L) j → In W j ⊎ WantedBy (wants W L) L j
  unfolding wants
  wants_why W [] j h = inl h
  wants_why W (i ∷ L) j h = go (among (wants W L) i) refl h (λ m. wants_why W L j m)
    where
      up : (G : List ℕ) → ((m : ℕ) → In (wants W L) m → In G m) → In W j ⊎ WantedBy (wants W L) L j → In W j ⊎ WantedBy G (i ∷ L) j
      up G sub (inl m) = inl m
      up G sub (inr w) = inr (by_more (wants W L) G L i j sub w)

      go : (b : Bool) → among (wants W L) i ≡ b → In (pick b (N i ++ wants W L) (wants W L)) j → (In (wants W L) j → In W j ⊎ WantedBy (wants W L) L j)
          → In W j ⊎ WantedBy (pick b (N i ++ wants W L) (wants W L)) (i ∷ L) j
      go true e m rec = split (in_either (N i) (wants W L) j m)
        where
          split : In (N i) j ⊎ In (wants W L) j → In W j ⊎ WantedBy (N i ++ wants W L) (i ∷ L) j
          split (inl n) = inr (record { by = i; listed = inl refl; wanted = in_right (N i) (wants W L) i ((among_in (wants W L) i).0 e); through = n })
          split (inr n) = up (N i ++ wants W L) (λ m x. in_right (N i) (wants W L) m x) (rec n)
      go false e m rec = up (wants W L) (λ m x. x) (rec m)

  -- What is wanted and listed has its own wants among the wanted.
  pub wants_closed : (W L : List ℕ) → Earlier L → (i : ℕ) → In L i → In (wants W L) i → (j : ℕ) → In (N i) j → In (wants W L) j
  unfolding wants
  wants_closed W [] a i m h j n = absurd m
  wants_closed W (l ∷ L) a i m h j n = go (among (wants W L) l) refl h m (λ x y. wants_closed W L a.1 i x y j n)
    where
      go : (b : Bool) → among (wants W L) l ≡ b → In (pick b (N l ++ wants W L) (wants W L)) i → (l ≡ i) ⊎ In L i → (In L i → In (wants W L) i → In (wants W L) j)
          → In (pick b (N l ++ wants W L) (wants W L)) j
      go true e h (inl q) rec = in_left (N l) (wants W L) j (rw (← q) at n)
      go true e h (inr x) rec = split (in_either (N l) (wants W L) i h)
        where
          split : In (N l) i ⊎ In (wants W L) i → In (N l ++ wants W L) j
          split (inl y) = absurd (a.0 i y (inr x))
          split (inr y) = in_right (N l) (wants W L) j (rec x y)
      go false e h (inl q) rec = absurd (false≢true (sym e ∙ (among_in (wants W L) l).1 (rw (← q) at h)))
      go false e h (inr x) rec = rec x h
