-- Records of a section, read in a loop, each from the rest of the bytes.
use mathlib.Core.Path.{◌≡◌, sym, ◌∙◌, ap, subst}
use mathlib.Core.List.{List, []}
use Prim.Native.Nat.{ℕ, ◌+◌, ◌-◌, ◌<◌, ◌≤◌}
use native.Mathlib.Omega.{arith}
use native.Mathlib.Nat.{add-zero}
use lib.ListN.{length, take, drop, length-drop}
use Rattle.rules.specs.Lists.{◌▷◌}
use Rattle.std.specs.Prelude.{Result, Ok, Err, IsErrAnd}
use Rattle.std.proofs.lemmas.Result.{err_from_is_err_and}
use Rattle.wire.proofs.PartsLaws.{rest_of}
use Rattle.records.specs.Parsed.{Parsed, got, bad, Reader, moved_fault, moved_by, after}
use Rattle.records.specs.Many.{many}
use Rattle.records.specs.declared.faults.Fault.{Fault}
use Rattle.records.proofs.FormatLaws.{Walks}
use Rattle.records.proofs.ManyLaws.{Going, going_start, going_on, going_bad, going_end}
use Rattle.table.specs.Kept.{IfGood}

-- ---- an answer, and what holds besides if all is well
module _ {A R : Type 0} (as_answer : Parsed A → R) (K : A → Type 0) (r : R) (p : Parsed A) where
  abbrev pub Besides : Type 0
  Besides = (r ≡ as_answer p) × IfGood p K

  pub ill : ((x : A) (at : ℕ) → r ≡ as_answer (got x at) → ⊥) → r ≡ as_answer p → Besides
  ill apart e = (e, λ x at q. absurd (apart x at (e ∙ ap as_answer q)))

  pub well : (x : A) (at : ℕ) → p ≡ got x at → K x → r ≡ as_answer p → Besides
  well x at g k e = (e, λ y n q. let h : ◌≡◌ {A = Parsed A} (got x at) (got y n) = sym g ∙ q in let i : x ≡ y = cc h in subst K i k)

pub after_apart : {A : Type 0} (f : Fault) (l : List A) (at : ℕ) → Err f ≡ after (got l at) → ⊥
after_apart f l at e = let z : ◌≡◌ {A = ℕ} 0 1 = cc in absurd (omega arith)

-- A fault that is passed on, with what holds besides.
pub besides_passed : {A R : Type 0} (as_answer : Parsed A → Result R Fault) (K : A → Type 0) {p : Parsed A} {r : Result R Fault} {e : Fault} → IsErrAnd r (λ d. d ≡ e)
    → Besides as_answer K (Err e) p → Besides as_answer K r p
besides_passed as_answer K {r = r} h b = let q = err_from_is_err_and r h in (rw (q.1, q.2) b.0, b.1)

-- The bytes from a place on, as code passes them.
abbrev pub rest : List ℕ → ℕ → List ℕ
rest s at = take (length s - at) (drop at s)

module _ {A : Type 0} (P : List A → Reader A) (walks : (earlier : List A) → Walks (P earlier)) (s : List ℕ) where
  -- What stands at a place is what the bytes from there begin with.
  from_there : (earlier : List A) (at : ℕ) → P earlier s at ≡ moved_by at (P earlier (rest s at) 0)
  from_there earlier at =
      ap (P earlier s) (sym (add-zero at)) ∙ (walks earlier).moves s at 0 ∙ ap (λ (l : List ℕ). moved_by at (P earlier l 0)) (sym (rest_of s at))

  module _ (earlier : List A) (at : ℕ) (h : at ≤ length s) where
    size : at + length (rest s at) ≡ length s
    size = omega (arith, ap length (rest_of s at), length-drop at s)

    pub there_got : (x : A) (n : ℕ) → P earlier (rest s at) 0 ≡ got x n → (P earlier s at ≡ got x (at + n)) × (at + n ≤ length s)
    there_got x n e = (from_there earlier at ∙ ap (moved_by at) e, omega (arith, size, ((walks earlier).ends x (rest s at) 0 n (omega arith) e).1))

    -- And what stands at a place can be read from there.
    pub there_back : (x : A) (next : ℕ) → P earlier s at ≡ got x next → (n : ℕ) × (P earlier (rest s at) 0 ≡ got x n)
    there_back x next e = go (P earlier (rest s at) 0) (sym (from_there earlier at) ∙ e)
      where
        go : (p : Parsed A) → moved_by at p ≡ got x next → (n : ℕ) × (p ≡ got x n)
        go (got y n) q = let u : y ≡ x = cc in (n, ap (λ (z : A). got z n) u)
        go (bad f) q = let z : ◌≡◌ {A = ℕ} 0 1 = cc in absurd (omega arith)

    pub there_bad : (e : Fault) → P earlier (rest s at) 0 ≡ bad e → (P earlier s at ≡ bad (moved_fault at e)) × (at + e.place.offset ≤ length s)
    there_bad e q = (from_there earlier at ∙ ap (moved_by at) q, omega (arith, size, (walks earlier).within e (rest s at) 0 (omega arith) q))

  -- Of `count` records from `from` on, these `i` were read, and the next stands at `at`.
  pub record Reading (count from at i : ℕ) (earlier : List A) : Type 0 where
    pub most : i ≤ count
    pub within : at ≤ length s
    pub going : Going P s count from i at earlier

  pub reading_start : (count from : ℕ) → from ≤ length s → Reading count from from 0 []
  reading_start count from h = record { most = omega arith; within = h; going = going_start P s count from }

  module _ (count from at i : ℕ) (earlier : List A) (r : Reading count from at i earlier) where
    module _ (h : i < count) where
      -- With the record that stands at the place.
      pub reading_next : (x : A) (next : ℕ) → P earlier s at ≡ got x next → Reading count from next (i + 1) (earlier ▷ x)
      reading_next x next e = record { most = omega arith; within = ((walks earlier).ends x s at next r.within e).1; going = going_on P s count from i at earlier r.going h x next e }

      -- With the fault that is found at the place.
      pub reading_stop : (K : List A → Type 0) (e : Fault) → P earlier s at ≡ bad e → Besides after K (Err e) (many P count [] s from)
      reading_stop K e q = ill after K (Err e) (many P count [] s from) (after_apart e) (ap after (sym (going_bad P s count from i at earlier r.going h e q)))

    pub reading_end : (K : List A → Type 0) → K earlier → count ≤ i → Besides after K (Ok at) (many P count [] s from)
    reading_end K k h =
        let e = going_end P s count from i at earlier r.going h in
        well after K (Ok at) (many P count [] s from) earlier at e k (ap after (sym e))
