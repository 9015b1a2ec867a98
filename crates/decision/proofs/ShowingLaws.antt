-- What is marked of a derivation's records, path by path.
use mathlib.Core.Path.{◌≡◌, sym, ◌∙◌, ap, subst}
use mathlib.Core.Logic.{◌⊎◌, inl, inr}
use mathlib.Core.Bool.{Bool, true, false}
use mathlib.Core.List.{List, [], ◌∷◌}
use Prim.Native.Nat.{ℕ, zero, suc, ◌+◌, ◌<◌, ◌≤◌}
use native.Mathlib.Numerals.{add-one}
use native.Mathlib.Omega.{arith}
use lib.ListN.{length, take, replicate}
use lib.Seq.{take-suc}
use Rattle.rules.specs.Lists.{At, ◌▷◌, In}
use Rattle.rules.specs.Tables.{Path, Target, AccessRecord, Delegation, Table}
use Rattle.rules.specs.Ranges.{Good}
use Rattle.rules.specs.Names.{Through, TargetThrough}
use Rattle.rules.specs.Sheets.{entry}
use Rattle.rules.proofs.ListsLaws.{at_one, in_snoc, in_left, in_last}
use Rattle.records.specs.Paths.{path_of}
use Rattle.records.specs.Accesses.{access_value}
use Rattle.records.specs.Delegations.{delegation_value}
use Rattle.records.specs.declared.accesses.Access.{Access}
use Rattle.records.specs.declared.delegations.Delegation.{Delegation as DelegationValue}
use Rattle.sheet.proofs.MeaningLaws.{path_back}
use Rattle.marking.specs.Marks.{marked, Adds}
use Rattle.marking.specs.Needed.{Wanted, Needed}
use Rattle.decision.specs.Showing.{ByAccess, ByDelegation, Unmarked, Reason, for_subject, for_access, for_chain, for_binding, AllMarked}

coerce : {A B : Type 0} → A ≡ B → A → B
coerce e x = subst (λ (C : Type 0). C) e x

-- ---- one row of marks behind another
module _ {P Q : ℕ → Type 0} {before middle after : List Bool} where
  pub adds_both : Adds P before middle → Adds Q middle after → Adds (λ (i : ℕ). P i ⊎ Q i) before after
  adds_both a b = record {
    kept = λ i h. b.kept i (a.kept i h);
    added = λ i p. either i p;
    only = λ i h. back i (b.only i h);
  }
    where
      either : (i : ℕ) → P i ⊎ Q i → marked after i ≡ true
      either i (inl p) = b.kept i (a.added i p)
      either i (inr q) = b.added i q

      again : (i : ℕ) → (marked before i ≡ true) ⊎ P i → (marked before i ≡ true) ⊎ (P i ⊎ Q i)
      again i (inl h) = inl h
      again i (inr p) = inr (inl p)

      back : (i : ℕ) → (marked middle i ≡ true) ⊎ Q i → (marked before i ≡ true) ⊎ (P i ⊎ Q i)
      back i (inl h) = again i (a.only i h)
      back i (inr q) = inr (inr q)

-- ---- the same marks for another reason that says the same
pub adds_as : {P Q : ℕ → Type 0} {before after : List Bool} → ((i : ℕ) → P i → Q i) → ((i : ℕ) → Q i → P i) → Adds P before after → Adds Q before after
adds_as {P} {Q} {before} to from a = record { kept = a.kept; added = λ i q. a.added i (from i q); only = λ i h. again i (a.only i h) }
  where
    again : (i : ℕ) → (marked before i ≡ true) ⊎ P i → (marked before i ≡ true) ⊎ Q i
    again i (inl h) = inl h
    again i (inr p) = inr (to i p)

module _ (t : Table) (good : Good t) where
  -- ---- an access record
  module _ (i : ℕ) (v : Access) (x : AccessRecord) (a : At t.accesses i x) (e : v ≡ access_value x) where
    same_path : (b : ℕ) → Through t.names v.owner (path_of v.path) b ≡ Through t.names x.owner x.path b
    same_path b =
        ap (λ (y : Access). Through t.names y.owner (path_of y.path) b) e ∙ ap (λ (p : Path). Through t.names x.owner p b) (path_back x.path (good.accesses i x a).path.short)

    pub access_marked : {before after : List Bool} → Adds (Through t.names v.owner (path_of v.path)) before after → Adds (ByAccess t i) before after
    access_marked w = adds_as (λ b h. record { access = x; at = a; through = coerce (same_path b) h })
        (λ b h. coerce (sym (same_path b)) (subst (λ (y : AccessRecord). Through t.names y.owner y.path b) (at_one h.at a) h.through)) w

  -- ---- a delegation
  module _ (j : ℕ) (v : DelegationValue) (x : Delegation) (a : At t.delegations j x) (e : v ≡ delegation_value x) where
    same_owner_lem : (b : ℕ) → Through t.names v.writer (path_of v.owner) b ≡ Through t.names x.writer x.owner_path b
    same_owner_lem b =
        ap (λ (y : DelegationValue). Through t.names y.writer (path_of y.owner) b) e ∙ ap (λ (p : Path). Through t.names x.writer p b) (path_back x.owner_path (good.delegations j x a).owner_path.short)

    same_delegatee : (b : ℕ) → Through t.names v.writer (path_of v.delegatee) b ≡ Through t.names x.writer x.delegatee_path b
    same_delegatee b =
        ap (λ (y : DelegationValue). Through t.names y.writer (path_of y.delegatee) b) e
        ∙ ap (λ (p : Path). Through t.names x.writer p b) (path_back x.delegatee_path (good.delegations j x a).delegatee_path.short)

    pub delegation_marked : {before middle after : List Bool} → Adds (Through t.names v.writer (path_of v.owner)) before middle → Adds (Through t.names v.writer (path_of v.delegatee)) middle after
        → Adds (ByDelegation t j) before after
    delegation_marked w u = adds_as (λ b h. record { delegation = x; at = a; through = here b h }) (λ b h. there b (subst (λ (y : Delegation). Goes y b) (at_one h.at a) h.through)) (adds_both w u)
      where
        Goes : Delegation → ℕ → Type 0
        Goes y b = Through t.names y.writer y.owner_path b ⊎ Through t.names y.writer y.delegatee_path b

        here : (b : ℕ) → Through t.names v.writer (path_of v.owner) b ⊎ Through t.names v.writer (path_of v.delegatee) b
            → Through t.names x.writer x.owner_path b ⊎ Through t.names x.writer x.delegatee_path b
        here b (inl h) = inl (coerce (same_owner_lem b) h)
        here b (inr h) = inr (coerce (same_delegatee b) h)

        there : (b : ℕ) → Through t.names x.writer x.owner_path b ⊎ Through t.names x.writer x.delegatee_path b
            → Through t.names v.writer (path_of v.owner) b ⊎ Through t.names v.writer (path_of v.delegatee) b
        there b (inl h) = inl (coerce (sym (same_owner_lem b)) h)
        there b (inr h) = inr (coerce (sym (same_delegatee b)) h)

-- ---- the chain
abbrev pub OfChain : Table → List ℕ → ℕ → Type 0
OfChain t c b = (j : ℕ) × In c j × ByDelegation t j b

pub record Marking (t : Table) (c : List ℕ) (before marks : List Bool) (i : ℕ) : Type 0 where
  pub most : i ≤ length c
  pub size : length marks ≡ length before
  pub adds : Adds (OfChain t (take i c)) before marks

pub marking_on : (t : Table) (c : List ℕ) (before marks after : List Bool) (i : ℕ) → Marking t c before marks i → i < length c → length after ≡ length marks → Adds (ByDelegation t (entry c i)) marks after → Marking t c before after (i + 1)
marking_on t c before marks after i m h e w = record { most = omega arith; size = e ∙ m.size; adds = adds_as to from (adds_both m.adds w) }
  where
    longer : take (i + 1) c ≡ take i c ▷ entry c i
    longer = ap (λ (n : ℕ). take n c) (add-one i) ∙ take-suc c i 0 h

    to : (b : ℕ) → OfChain t (take i c) b ⊎ ByDelegation t (entry c i) b → OfChain t (take (i + 1) c) b
    to b (inl (j, k, x)) = (j, subst (λ (l : List ℕ). In l j) (sym longer) (in_left (take i c) (entry c i ∷ []) j k), x)
    to b (inr x) = (entry c i, subst (λ (l : List ℕ). In l (entry c i)) (sym longer) (in_last (take i c) (entry c i)), x)

    from : (b : ℕ) → OfChain t (take (i + 1) c) b → OfChain t (take i c) b ⊎ ByDelegation t (entry c i) b
    from b (j, k, x) = either (in_snoc (take i c) (entry c i) j (subst (λ (l : List ℕ). In l j) longer k))
      where
        either : In (take i c) j ⊎ (entry c i ≡ j) → OfChain t (take i c) b ⊎ ByDelegation t (entry c i) b
        either (inl y) = inl (j, y, x)
        either (inr q) = inr (subst (λ (n : ℕ). ByDelegation t n b) (sym q) x)

-- ---- all of it
pub all_marked : (t : Table) (subject : Target) (access : ℕ) (c L : List ℕ) (m₀ m₁ m₂ m₃ m₄ : List Bool) → Unmarked m₀ → Adds (TargetThrough t.names subject) m₀ m₁ → Adds (ByAccess t access) m₁ m₂
    → Adds (OfChain t c) m₂ m₃ → Needed t.names L m₃ m₄ → AllMarked t subject access c L m₄
all_marked t subject access c L m₀ m₁ m₂ m₃ m₄ z s a k n = record {
  by_subject = λ b h. n.kept b (k.kept b (a.kept b (s.added b h)));
  by_access = λ b h. n.kept b (k.kept b (a.added b h));
  by_chain = λ j b i h. n.kept b (k.added b (j, i, h));
  by_bindings = n.closed;
  why = λ b h. four b (n.why b h);
}
  where
    one : (b : ℕ) → (marked m₀ b ≡ true) ⊎ TargetThrough t.names subject b → Reason t subject access c L m₄ b
    one b (inl h) = absurd (z.none' b h)
    one b (inr h) = for_subject h

    two : (b : ℕ) → (marked m₁ b ≡ true) ⊎ ByAccess t access b → Reason t subject access c L m₄ b
    two b (inl h) = one b (s.only b h)
    two b (inr h) = for_access h

    three : (b : ℕ) → (marked m₂ b ≡ true) ⊎ OfChain t c b → Reason t subject access c L m₄ b
    three b (inl h) = two b (a.only b h)
    three b (inr (j, i, x)) = for_chain j i x

    four : (b : ℕ) → (marked m₃ b ≡ true) ⊎ ((m : ℕ) × In L m × Wanted t.names m₄ m b) → Reason t subject access c L m₄ b
    four b (inl h) = three b (k.only b h)
    four b (inr (m, i, w)) = for_binding m i w

-- ---- nothing is marked yet
unmarked : (n i : ℕ) → marked (replicate n false) i ≡ true → ⊥
unmarked zero i e = let z : ◌≡◌ {A = ℕ} 0 1 = cc e in absurd (omega arith)
unmarked (suc n) zero e = let z : ◌≡◌ {A = ℕ} 0 1 = cc e in absurd (omega arith)
unmarked (suc n) (suc i) e = unmarked n i e

pub blank_marks : (n : ℕ) → Unmarked (replicate n false)
blank_marks n = record { none' = λ i e. unmarked n i e }
