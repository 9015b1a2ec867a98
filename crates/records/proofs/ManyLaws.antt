-- Records one behind the other, read in a loop: what is left to do finds the same as the whole.
use mathlib.Core.Path.{◌≡◌, refl, sym, ◌∙◌, ap}
use mathlib.Core.List.{List, [], ◌∷◌, ◌++◌, append_assoc, append-nil}
use Prim.Native.Nat.{ℕ, zero, suc, ◌+◌, ◌-◌, ◌<◌, ◌≤◌}
use native.Mathlib.Omega.{arith}
use native.Mathlib.Numerals.{add-one}
use lib.ListN.{length, take, get_or, drop, length-append}
use lib.Seq.{take-suc, drop-cons}
use Rattle.rules.specs.Lists.{◌▷◌}
use Rattle.records.specs.Parsed.{Parsed, got, bad, Reader, ◌⟫◌}
use Rattle.records.specs.Many.{many, many_bytes}
use Rattle.records.specs.declared.faults.Fault.{Fault}
use Rattle.records.proofs.ParsedLaws.{then_got, got_then, bad_first}

-- Behind those that were read already.
abbrev pub behind_these : {A : Type 0} → List A → Parsed (List A) → Parsed (List A)
behind_these earlier p = p ⟫ λ l at. got (earlier ++ l) at

module _ {A : Type 0} (P : List A → Reader A) (s : List ℕ) where
  -- Of `count` records from `from` on, these were read, and the next stands at `at`.
  pub record Going (count from i at : ℕ) (earlier : List A) : Type 0 where
    pub read : length earlier ≡ i
    pub same : many P count [] s from ≡ behind_these earlier (many P (count - i) earlier s at)

  pub going_start : (count from : ℕ) → Going count from 0 from []
  unfolding ◌⟫◌
  going_start count from = record { read = refl; same = start (many P count [] s from) ∙ ap (λ (n : ℕ). behind_these [] (many P n [] s from)) (less count) }
    where
      start : (p : Parsed (List A)) → p ≡ behind_these [] p
      start (got l at) = refl
      start (bad e) = refl

      less : (n : ℕ) → n ≡ n - 0
      less n = omega arith

  module _ (count from i at : ℕ) (earlier : List A) (g : Going count from i at earlier) where
    -- What is left begins with the next.
    left : i < count → many P count [] s from ≡ behind_these earlier (many P (suc (count - (i + 1))) earlier s at)
    left h = let m : count - i ≡ suc (count - (i + 1)) = omega arith in g.same ∙ ap (λ (n : ℕ). behind_these earlier (many P n earlier s at)) m

    -- One more was read.
    pub going_on : i < count → (x : A) (next : ℕ) → P earlier s at ≡ got x next → Going count from (i + 1) next (earlier ▷ x)
    unfolding many ◌⟫◌
    going_on h x next e =
        record { read = omega (arith, g.read, length-append earlier (x ∷ [])); same = left h ∙ ap (behind_these earlier) (got_then (P earlier s at) _ e) ∙ joined (many P (count - (i + 1)) (earlier ▷ x) s next) }
      where
        joined : (p : Parsed (List A)) → behind_these earlier (p ⟫ λ l at. got (x ∷ l) at) ≡ behind_these (earlier ▷ x) p
        joined (got l k) = ap (λ (y : List A). got y k) (sym (append_assoc earlier (x ∷ []) l))
        joined (bad f) = refl

    -- The next has a fault, and so has the whole.
    pub going_bad : i < count → (e : Fault) → P earlier s at ≡ bad e → many P count [] s from ≡ bad e
    unfolding many ◌⟫◌
    going_bad h e f = left h ∙ ap (behind_these earlier) (bad_first (P earlier s at) _ f)

    -- All were read.
    pub going_end : count ≤ i → many P count [] s from ≡ got earlier at
    unfolding many ◌⟫◌
    going_end h =
        let m : count - i ≡ 0 = omega arith in
        g.same ∙ ap (λ (n : ℕ). behind_these earlier (many P n earlier s at)) m ∙ ap (λ (l : List A). got l at) (append-nil earlier)

-- ---- their bytes
pub many_snoc : {A : Type 0} (E : A → List ℕ) (l : List A) (x : A) → many_bytes E (l ▷ x) ≡ many_bytes E l ++ E x
unfolding many_bytes
many_snoc E [] x = append-nil (E x)
many_snoc E (y ∷ l) x = ap (λ (b : List ℕ). E y ++ b) (many_snoc E l x) ∙ sym (append_assoc (E y) (many_bytes E l) (E x))

pub many_append : {A : Type 0} (E : A → List ℕ) (l m : List A) → many_bytes E (l ++ m) ≡ many_bytes E l ++ many_bytes E m
unfolding many_bytes
many_append E [] m = refl
many_append E (y ∷ l) m = ap (λ (b : List ℕ). E y ++ b) (many_append E l m) ∙ sym (append_assoc (E y) (many_bytes E l) (many_bytes E m))

pub many_take : {A : Type 0} (E : A → List ℕ) (l : List A) (i : ℕ) (d : A) → i < length l → many_bytes E (take (i + 1) l) ≡ many_bytes E (take i l) ++ E (get_or l i d)
many_take E l i d h = rw (add-one, take-suc l i d h) (many_snoc E (take i l) (get_or l i d))

-- ---- one by one, where all were found
module _ {A : Type 0} (P : List A → Reader A) where
  -- The first, and behind it the others.
  pub many_first : (n : ℕ) (earlier l : List A) (s : List ℕ) (at next : ℕ) → many P (suc n) earlier s at ≡ got l next
      → (x : A) × (mid : ℕ) × (k : List A) × (P earlier s at ≡ got x mid) × (many P n (earlier ▷ x) s mid ≡ got k next) × (x ∷ k ≡ l)
  unfolding many
  many_first n earlier l s at next e = go (then_got _ (P earlier s at) l next e)
    where
      go : (x : A) × (mid : ℕ) × (P earlier s at ≡ got x mid) × ((many P n (earlier ▷ x) s mid ⟫ λ l at. got (x ∷ l) at) ≡ got l next)
          → (x : A) × (mid : ℕ) × (k : List A) × (P earlier s at ≡ got x mid) × (many P n (earlier ▷ x) s mid ≡ got k next) × (x ∷ k ≡ l)
      go (x, mid, a, b) = last (then_got _ (many P n (earlier ▷ x) s mid) l next b)
        where
          last : (k : List A) × (end : ℕ) × (many P n (earlier ▷ x) s mid ≡ got k end) × (◌≡◌ {A = Parsed (List A)} (got (x ∷ k) end) (got l next))
              → (x : A) × (mid : ℕ) × (k : List A) × (P earlier s at ≡ got x mid) × (many P n (earlier ▷ x) s mid ≡ got k next) × (x ∷ k ≡ l)
          last (k, end, c, d) = let u : x ∷ k ≡ l = cc in let v : end ≡ next = cc in (x, mid, k, a, c ∙ ap (got k) v, u)

  pub many_length : (n : ℕ) (earlier l : List A) (s : List ℕ) (at next : ℕ) → many P n earlier s at ≡ got l next → length l ≡ n
  unfolding many
  many_length zero earlier l s at next e = let q : l ≡ [] = cc in ap length q
  many_length (suc n) earlier l s at next e =
      let r = many_first n earlier l s at next e in
      sym (ap length r.5) ∙ ap suc (many_length n (earlier ▷ r.0) r.2 s r.1 next r.4)

  -- Of a row that reads as `l` up to `next`, the first `i` are read, and the others stand from `at` on.
  pub record Left (s : List ℕ) (l : List A) (next i at : ℕ) : Type 0 where
    pub rest : many P (length l - i) (take i l) s at ≡ got (drop i l) next

  module _ (s : List ℕ) (l : List A) (next : ℕ) where
    pub left_start : (at : ℕ) → many P (length l) [] s at ≡ got l next → Left s l next 0 at
    left_start at e = record { rest = let n : length l - 0 ≡ length l = omega arith in ap (λ (k : ℕ). many P k [] s at) n ∙ e }

    pub left_on : (i at : ℕ) (d : A) → i < length l → Left s l next i at → (mid : ℕ) × (P (take i l) s at ≡ got (get_or l i d) mid) × Left s l next (i + 1) mid
    left_on i at d h w =
        let n : suc (length l - suc i) ≡ length l - i = omega arith in
        go (many_first (length l - suc i) (take i l) (drop i l) s at next (ap (λ (k : ℕ). many P k (take i l) s at) n ∙ w.rest))
      where
        go : (x : A) × (mid : ℕ) × (k : List A) × (P (take i l) s at ≡ got x mid) × (many P (length l - suc i) (take i l ▷ x) s mid ≡ got k next) × (x ∷ k ≡ drop i l)
            → (mid : ℕ) × (P (take i l) s at ≡ got (get_or l i d) mid) × Left s l next (i + 1) mid
        go (x, mid, k, a, b, e) =
            let c : x ∷ k ≡ get_or l i d ∷ drop (suc i) l = e ∙ drop-cons l i d h in
            let u : x ≡ get_or l i d = cc c in
            let v : k ≡ drop (suc i) l = cc c in
            (mid, a ∙ ap (λ (y : A). got y mid) u, record { rest = rw (add-one, take-suc l i d h) (rw (← u, ← v) b) })

    pub left_end : (i at : ℕ) → length l ≤ i → Left s l next i at → at ≡ next
    unfolding many
    left_end i at h w =
        let n : 0 ≡ length l - i = omega arith in
        let e : ◌≡◌ {A = Parsed (List A)} (got [] at) (got (drop i l) next) = ap (λ (k : ℕ). many P k (take i l) s at) n ∙ w.rest in
        cc e
