-- Meaning from listed bindings is meaning, and more bindings take no meaning away.
use mathlib.Core.Path.{sym, subst}
use mathlib.Core.List.{List, [], ◌∷◌, ◌++◌, append_assoc, append-nil}
use Prim.Native.Nat.{ℕ}
use Rattle.rules.specs.Lists.{At, ◌▷◌, In}
use Rattle.rules.specs.Tables.{Path, Target, Binding, NameTable}
use Rattle.rules.specs.Names.{Means, TargetMeans}
use Rattle.rules.specs.Derivations.{chosen, only, MeansFrom, OrderedAfter}
use Rattle.rules.specs.declared.Key.{Key}
use Rattle.rules.specs.declared.Space.{Space}
use Rattle.rules.proofs.ListsLaws.{chosen_listed, listed_chosen}
use Rattle.rules.proofs.NamesLaws.{means_within, target_within}

module _ (t : NameTable) where
  -- Of the listed bindings, more may be listed.
  listed_within : (L M : List ℕ) → ((i : ℕ) → In L i → In M i) → (j : ℕ) (x : Binding) → At (chosen t.bindings L) j x → (m : ℕ) × At (chosen t.bindings M) m x
  listed_within L M sub j x a =
      let r = chosen_listed t.bindings L j x a in
      listed_chosen t.bindings M r.0 x (sub r.0 r.1) r.2

  all_within : (L : List ℕ) (j : ℕ) (x : Binding) → At (chosen t.bindings L) j x → (m : ℕ) × At t.bindings m x
  all_within L j x a = let r = chosen_listed t.bindings L j x a in (r.0, r.2)

  -- More bindings take no meaning away.
  pub only_more : (L M : List ℕ) → ((i : ℕ) → In L i → In M i) → {S : Space} {p : Path} {k : Key} → Means (only t L) S p k → Means (only t M) S p k
  only_more L M sub m = means_within t (chosen t.bindings L) (chosen t.bindings M) (listed_within L M sub) m

  pub target_only_more : (L M : List ℕ) → ((i : ℕ) → In L i → In M i) → (g : Target) (k : Key) → TargetMeans (only t L) g k → TargetMeans (only t M) g k
  target_only_more L M sub g k m = target_within t (chosen t.bindings L) (chosen t.bindings M) (listed_within L M sub) g k m

  -- Meaning from listed bindings is meaning.
  pub only_means : (L : List ℕ) {S : Space} {p : Path} {k : Key} → Means (only t L) S p k → Means t S p k
  only_means L m = means_within t (chosen t.bindings L) t.bindings (all_within L) m

  pub target_only : (L : List ℕ) (g : Target) (k : Key) → TargetMeans (only t L) g k → TargetMeans t g k
  target_only L g k m = target_within t (chosen t.bindings L) t.bindings (all_within L) g k m

  -- ---- one more at the end of an ordered list
  pub ordered_snoc : (B L : List ℕ) (i : ℕ) → OrderedAfter t B L → MeansFrom t (B ++ L) i → OrderedAfter t B (L ▷ i)
  ordered_snoc B [] i o m = (rw append-nil at m, tt)
  ordered_snoc B (l ∷ L) i o m = (o.0, ordered_snoc (B ▷ l) L i o.1 (subst (λ (M : List ℕ). MeansFrom t M i) (sym (append_assoc B (l ∷ []) L)) m))
