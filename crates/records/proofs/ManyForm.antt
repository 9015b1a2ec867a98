-- Records one behind the other have one form where each has.
use mathlib.Core.Path.{◌≡◌, refl, sym, ap, subst, subst₂}
use mathlib.Core.List.{List, [], ◌∷◌, ◌++◌, append_assoc, append-nil}
use Prim.Native.Nat.{ℕ, zero, suc}
use native.Mathlib.Nat.{not-suc-le-zero, le_of_suc-le-suc}
use native.Mathlib.Omega.{arith}
use lib.ListN.{length, take, drop}
use Rattle.rules.specs.Lists.{At, ◌▷◌}
use Rattle.rules.proofs.ListsLaws.{at_head, at_tail}
use Rattle.records.specs.Parsed.{Reader, mapped}
use Rattle.records.specs.Many.{many, many_bytes}
use Rattle.records.proofs.FormatLaws.{Walks, Format, just_walks, just_format, led_walks, two_format, mapped_walks, made_format, refit, rebyte}

-- Each fits behind those before it.
abbrev pub AllFit : {A : Type 0} → (List A → A → Type 0) → List A → List A → Type 0
AllFit Fit earlier [] = Unit {0}
AllFit Fit earlier (x ∷ l) = Fit earlier x × AllFit Fit (earlier ▷ x) l

module _ {A : Type 0} (P : List A → Reader A) where
  pub many_walks : ((earlier : List A) → Walks (P earlier)) → (n : ℕ) (earlier : List A) → Walks (many P n earlier)
  unfolding many mapped
  many_walks w zero earlier = just_walks []
  many_walks w (suc n) earlier =
      led_walks (P earlier) (λ x. mapped (λ l. x ∷ l) (many P n (earlier ▷ x))) (w earlier) (λ x. mapped_walks (λ l. x ∷ l) (many P n (earlier ▷ x)) (many_walks w n (earlier ▷ x)))

module _ {A : Type 0} (P : List A → Reader A) (Fit : List A → A → Type 0) (E : A → List ℕ) where
  -- So many that fit.
  abbrev Row : ℕ → List A → List A → Type 0
  Row n earlier l = (length l ≡ n) × AllFit Fit earlier l

  none_format : (earlier : List A) → Format (Row 0 earlier) (many P 0 earlier) (many_bytes E)
  unfolding many many_bytes
  none_format earlier =
      rebyte (Row 0 earlier) (many P 0 earlier) (λ l. []) (many_bytes E) (λ l h. ap (many_bytes E) (empty l h.0))
      (refit (λ l. [] ≡ l) (Row 0 earlier) (many P 0 earlier) (λ l. []) (λ l. (λ e. subst (Row 0 earlier) e (refl, tt), λ h. empty l h.0)) (just_format []))
    where
      empty : (l : List A) → length l ≡ 0 → [] ≡ l
      empty [] h = refl
      empty (x ∷ l) h = absurd (omega arith)

  -- A row that begins with `x`, and the rest of which fits.
  abbrev Begun : ℕ → List A → A → List A → Type 0
  Begun n earlier x l = (x ∷ drop 1 l ≡ l) × Row n (earlier ▷ x) (drop 1 l)

  begin : (n : ℕ) (earlier l : List A) → Row (suc n) earlier l → (x : A) × Fit earlier x × Begun n earlier x l
  begin n earlier [] h = absurd (omega (arith, h.0))
  begin n earlier (x ∷ l) h = (x, h.1.0, (refl, (omega (arith, h.0), h.1.1)))

  one_more : (n : ℕ) (earlier : List A) → Format (Fit earlier) (P earlier) E → ((x : A) → Format (Row n (earlier ▷ x)) (many P n (earlier ▷ x)) (many_bytes E))
      → Format (Row (suc n) earlier) (many P (suc n) earlier) (many_bytes E)
  unfolding many many_bytes mapped
  one_more n earlier p q =
      two_format (P earlier) (λ x. mapped (λ l. x ∷ l) (many P n (earlier ▷ x))) (Fit earlier) E (Begun n earlier) (λ x l. many_bytes E (drop 1 l)) (Row (suc n) earlier) (many_bytes E)
      (λ x l f w. subst (Row (suc n) earlier) w.0 (ap suc w.1.0, (f, w.1.1))) (begin n earlier) (λ x l w. ap (many_bytes E) (sym w.0)) p
      (λ x f. made_format (λ l. x ∷ l) (many P n (earlier ▷ x)) (Row n (earlier ▷ x)) (many_bytes E) (Begun n earlier x) (λ l. many_bytes E (drop 1 l))
      (λ l h. (refl, h)) (λ l w. (drop 1 l, w.1, w.0)) (λ l. refl) (q x))

  pub many_format : ((earlier : List A) → Format (Fit earlier) (P earlier) E) → (n : ℕ) (earlier : List A) → Format (λ l. (length l ≡ n) × AllFit Fit earlier l) (many P n earlier) (many_bytes E)
  many_format p zero earlier = none_format earlier
  many_format p (suc n) earlier = one_more n earlier (p earlier) (λ x. many_format p n (earlier ▷ x))

module _ {A : Type 0} (Fit : List A → A → Type 0) where
  -- What has a number fits behind those with lower numbers; and where all do, the row fits.
  pub fit_at : (earlier l : List A) (i : ℕ) (x : A) → AllFit Fit earlier l → At l i x → Fit (earlier ++ take i l) x
  fit_at earlier [] i x h a = absurd (not-suc-le-zero a.there)
  fit_at earlier (y ∷ l) zero x h a = subst₂ Fit (sym (append-nil earlier)) a.is h.0
  fit_at earlier (y ∷ l) (suc i) x h a =
      subst (λ (k : List A). Fit k x) (append_assoc earlier (y ∷ []) (take i l)) (fit_at (earlier ▷ y) l i x h.1 (record { there = le_of_suc-le-suc a.there; is = a.is }))

  pub at_fit : (earlier l : List A) → ((i : ℕ) (x : A) → At l i x → Fit (earlier ++ take i l) x) → AllFit Fit earlier l
  at_fit earlier [] f = tt
  at_fit earlier (y ∷ l) f =
      (subst (λ (k : List A). Fit k y) (append-nil earlier) (f 0 y at_head), at_fit (earlier ▷ y) l (λ i x a. subst (λ (k : List A). Fit k x) (sym (append_assoc earlier (y ∷ []) (take i l))) (f (suc i) x (at_tail a))))
