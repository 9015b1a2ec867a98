-- A derivation that holds is a grant; every grant at the greatest depth has a derivation that holds, with nothing idle in it.
use mathlib.Core.Path.{◌≡◌, sym, subst}
use mathlib.Core.Bool.{Bool, true}
use mathlib.Core.List.{List, [], ◌∷◌}
use Prim.Native.Nat.{ℕ}
use Rattle.rules.specs.Lists.{At, In, NoneTwice, keep}
use Rattle.rules.specs.Tables.{Path, Target, to_name, Binding, AccessRecord, Delegation, NameTable, Table, Asked, Request}
use Rattle.rules.specs.Names.{Means, TargetMeans, Through, TargetThrough}
use Rattle.rules.specs.Ranges.{GoodNames}
use Rattle.rules.specs.Access.{Chain, first, next, Name, Meaning, Writes, setting_by, setting}
use Rattle.rules.specs.Derivations.{Derivation, only, Ordered, Holds}
use Rattle.rules.specs.Verdicts.{Grants}
use Rattle.rules.specs.declared.Key.{Key}
use Rattle.rules.specs.declared.Space.{Space}
use Rattle.rules.proofs.ListsLaws.{in_left, in_last}
use Rattle.rules.proofs.ListedLaws.{only_means, target_only}
use Rattle.rules.proofs.ThroughLaws.{AllMean, target_listed_means, target_means_listed}
use Rattle.rules.proofs.NeededLaws.{keep_in, keep_twice, keep_ordered, ordered_all_mean}
use Rattle.rules.proofs.DepthsLaws.{fits}
use Rattle.rules.proofs.AccessLaws.{chain→access, chain_one, table_fixed}

-- ---- a wider meaning keeps chains
module _ (M N : Meaning) (t : Table) (q : Asked Space) (wider : (S : Space) (p : Path) (k : Key) → M S p k → N S p k) where
  pub chain_wider : {i d : ℕ} {c : List ℕ} {n : Name} → Chain (setting_by M t q) i c n d → Chain (setting_by N t q) i c n d
  chain_wider (first x) = first x
  chain_wider (next c m w s) = next (chain_wider c) (wider _ _ _ m) (wrote w) s
    where
      wrote : {j d : ℕ} {k : Key} {n : Name} → Writes M t q j k n d → Writes N t q j k n d
      wrote w = record { is_self = w.is_self; owner_path = w.owner_path; at = w.at; owner_key = w.owner_key; owner_self = w.owner_self; owner_means = wider _ _ _ w.owner_means }

-- A DERIVATION THAT HOLDS GRANTS ITS DEPTH.
pub holds_grants : (t : Table) (r : Request) (v : Derivation) (d : ℕ) → Holds t r v d → Grants t r d
holds_grants t r v d h =
    let L = v.bindings in
    record {
      key = h.key;
      subject = target_only t.names L r.subject h.key h.subject;
      granted = record {
        name = h.last;
        access = chain→access (setting t r.asked) fits
            (chain_wider (Means (only t.names L)) (Means t.names) t r.asked (λ S p k m. only_means t.names L m) h.chain);
        means = only_means t.names L h.meets;
      };
    }

-- A DERIVATION HOLDS AT ONE DEPTH.
pub holds_one : (t : Table) (r : Request) (v : Derivation) (d e : ℕ) → Holds t r v d → Holds t r v e → d ≡ e
holds_one t r v d e a b =
    let M = Means (only t.names v.bindings) in
    (chain_one (setting_by M t r.asked) (table_fixed M t r.asked) a.chain b.chain).1

-- ---- a chain whose names are narrowed
module _ (M N : Meaning) (t : Table) (q : Asked Space) where
  -- What the name means by `M`, it means by `N`.
  abbrev pub Narrows : Space → Path → Type 0
  Narrows S p = (k : Key) → M S p k → N S p k

  abbrev NarrowsAccess : ℕ → Type 0
  NarrowsAccess i = (x : AccessRecord) → At t.accesses i x → Narrows x.owner x.path

  abbrev NarrowsDelegations : List ℕ → Type 0
  NarrowsDelegations c = (j : ℕ) (x : Delegation) → In c j → At t.delegations j x → Narrows x.writer x.owner_path × Narrows x.writer x.delegatee_path

  pub chain_narrow : {i d : ℕ} {c : List ℕ} {n : Name} → Chain (setting_by M t q) i c n d → NarrowsAccess i → NarrowsDelegations c
      → Chain (setting_by N t q) i c n d × Narrows n.space n.path
  chain_narrow (first {i = i} {n = n} x) a b = (first x, λ k m. subst (λ (S : Space). N S n.path k) (sym x.of_owner) (a _ x.at k (subst (λ (S : Space). M S n.path k) x.of_owner m)))
  chain_narrow (next {j = j} {c = c} {k = k} ch m w s) a b =
      let r = chain_narrow ch a (λ i x h. b i x (in_left c (j ∷ []) i h)) in
      let g = b j _ (in_last c j) w.at in (
        next r.0 (r.1 k m) (record { is_self = w.is_self; owner_path = w.owner_path; at = w.at; owner_key = w.owner_key; owner_self = w.owner_self; owner_means = g.0 w.owner_key w.owner_means }) s,
        g.1,
      )

-- ---- a grant's chain, with the bindings that are needed of an ordered list that gives every meaning
-- `f` passes whatever the subject, the chain and the bindings of `L` that pass go through.
pub record Covers (t : Table) (r : Request) (i : ℕ) (c L : List ℕ) (f : ℕ → Bool) : Type 0 where
  pub by_subject : (j : ℕ) → TargetThrough t.names r.subject j → f j ≡ true
  pub by_bindings : (m : ℕ) (x : Binding) → In L m → f m ≡ true → At t.names.bindings m x → (j : ℕ) → TargetThrough t.names x.target j → f j ≡ true
  pub by_access : (x : AccessRecord) → At t.accesses i x → (j : ℕ) → Through t.names x.owner x.path j → f j ≡ true
  pub by_owner_path : (m : ℕ) (x : Delegation) → In c m → At t.delegations m x → (j : ℕ) → Through t.names x.writer x.owner_path j → f j ≡ true
  pub by_delegatee_path : (m : ℕ) (x : Delegation) → In c m → At t.delegations m x → (j : ℕ) → Through t.names x.writer x.delegatee_path j → f j ≡ true

-- `L` is ordered, lists none twice, and gives every meaning.
pub record GivesAll (t : NameTable) (L : List ℕ) : Type 0 where
  pub ordered : Ordered t L
  pub none_twice : NoneTwice L
  pub all : (g : Target) (k : Key) → TargetMeans t g k → TargetMeans (only t L) g k

module _ (t : Table) (good : GoodNames t.names) (L : List ℕ) (gives : GivesAll t.names L) (f : ℕ → Bool) where
  kept : List ℕ
  kept = keep f L

  closed_all : ((m : ℕ) (x : Binding) → In L m → f m ≡ true → At t.names.bindings m x → (j : ℕ) → TargetThrough t.names x.target j → f j ≡ true) → AllMean t.names good kept
  unfolding kept
  closed_all closed = ordered_all_mean t.names good [] (keep f L) (λ i b. absurd b) (keep_ordered t.names good f [] L (λ i b. absurd b) closed gives.ordered)

  -- What is covered means the same by the bindings that are kept.
  kept_target : AllMean t.names good kept → (g : Target) (k : Key) → TargetMeans t.names g k → ((j : ℕ) → TargetThrough t.names g j → f j ≡ true) → TargetMeans (only t.names kept) g k
  unfolding kept
  kept_target all g k m pass =
      target_listed_means t.names good (keep f L) all g k m
      (λ j w. (keep_in f L j).1 (target_means_listed t.names good L g k (gives.all g k m) j w, pass j w))

  pub covered_holds : (r : Request) (i : ℕ) (c : List ℕ) → Covers t r i c L f → (k : Key) → TargetMeans t.names r.subject k → (n : Name) (d : ℕ)
      → Chain (setting t r.asked) i c n d → Means t.names n.space n.path k → Holds t r (record { bindings = keep f L; access = i; delegations = c }) d
  unfolding kept
  covered_holds r i c cov k m n d ch meets =
      let all = closed_all cov.by_bindings in
      let nar = chain_narrow (Means t.names) (Means (only t.names (keep f L))) t r.asked ch
      (λ x a k m. kept_target all (to_name x.owner x.path) k m (cov.by_access x a))
      (λ j x h a. (λ k m. kept_target all (to_name x.writer x.owner_path) k m (cov.by_owner_path j x h a), λ k m. kept_target all (to_name x.writer x.delegatee_path) k m (cov.by_delegatee_path j x h a))) in
      record {
        ordered = keep_ordered t.names good f [] L (λ i b. absurd b) cov.by_bindings gives.ordered;
        none_twice = keep_twice f L gives.none_twice;
        key = k;
        subject = kept_target all r.subject k m cov.by_subject;
        last = n;
        chain = nar.0;
        meets = nar.1 k meets;
      }
