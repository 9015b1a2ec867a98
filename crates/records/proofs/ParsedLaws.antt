-- Readers that follow one another, taken apart.
use mathlib.Core.Path.{◌≡◌, refl, sym, ◌∙◌, ap}
use mathlib.Core.Logic.{◌⊎◌, inl, inr}
use mathlib.Core.List.{List}
use mathlib.Core.Option.{Option, none, some, some-injective}
use Prim.Native.Nat.{ℕ, ◌+◌}
use native.Mathlib.Omega.{arith}
use Rattle.std.specs.Prelude.{Option as Answer, Some, None, Result, Ok, Err, IsErrAnd}
use Rattle.std.specs.Result.{result_ok}
use Rattle.std.proofs.lemmas.Result.{err_from_is_err_and}
use Rattle.records.specs.Parsed.{Parsed, got, bad, Reader, ◌⟫◌, ◌⊗◌, mapped, moved_by, found_as, found}
use Rattle.records.specs.declared.faults.Fault.{Fault}

module _ {A B : Type 0} (f : A → ℕ → Parsed B) where
  -- What both found was found by the one and then by the other.
  pub then_got : (p : Parsed A) (y : B) (next : ℕ) → (p ⟫ f) ≡ got y next → (x : A) × (at : ℕ) × (p ≡ got x at) × (f x at ≡ got y next)
  unfolding ◌⟫◌
  then_got (got x at) y next e = (x, at, refl, e)
  then_got (bad g) y next e = let z : ◌≡◌ {A = ℕ} 0 1 = cc in absurd (omega arith)

  -- A fault is the one's or the other's.
  pub then_bad : (p : Parsed A) (e : Fault) → (p ⟫ f) ≡ bad e → (p ≡ bad e) ⊎ ((x : A) × (at : ℕ) × (p ≡ got x at) × (f x at ≡ bad e))
  unfolding ◌⟫◌
  then_bad (got x at) e h = inr (x, at, refl, h)
  then_bad (bad g) e h = inl (let q : g ≡ e = cc in ap bad q)

  -- Seen from further back, the two are the two seen from further back.
  pub then_moved : (by : ℕ) (p p' : Parsed A) (g : A → ℕ → Parsed B) → p ≡ moved_by by p' → ((x : A) (at : ℕ) → f x (by + at) ≡ moved_by by (g x at)) → (p ⟫ f) ≡ moved_by by (p' ⟫ g)
  unfolding ◌⟫◌
  then_moved by p (got x at) g e h = rw e (h x at)
  then_moved by p (bad d) g e h = rw e refl

-- ---- readers that follow one another, grouped otherwise
pub then_on : {A B C : Type 0} (p : Parsed A) (f : A → ℕ → Parsed B) (g : B → ℕ → Parsed C) (h : A → ℕ → Parsed C) → ((x : A) (at : ℕ) → (f x at ⟫ g) ≡ h x at) → (p ⟫ f ⟫ g) ≡ (p ⟫ h)
unfolding ◌⟫◌
then_on (got x at) f g h e = e x at
then_on (bad d) f g h e = refl

pub then_on_twice : {A B C D : Type 0} (p : Parsed A) (f : A → ℕ → Parsed B) (g : B → ℕ → Parsed C) (k : C → ℕ → Parsed D) (h : A → ℕ → Parsed D)
    → ((x : A) (at : ℕ) → (f x at ⟫ g ⟫ k) ≡ h x at) → (p ⟫ f ⟫ g ⟫ k) ≡ (p ⟫ h)
unfolding ◌⟫◌
then_on_twice (got x at) f g k h e = e x at
then_on_twice (bad d) f g k h e = refl

-- ---- what readers that follow one another find, from what each finds
module _ {A B : Type 0} (p : Parsed A) (f : A → ℕ → Parsed B) where
  pub got_then : {x : A} {at : ℕ} → p ≡ got x at → (p ⟫ f) ≡ f x at
  unfolding ◌⟫◌
  got_then e = rw e

  pub bad_first : {e : Fault} → p ≡ bad e → (p ⟫ f) ≡ bad e
  unfolding ◌⟫◌
  bad_first e = rw e

module _ {A B : Type 0} (P : Reader A) (Q : Reader B) (s : List ℕ) (at : ℕ) where
  pub both_got : {x : A} {y : B} {mid next : ℕ} → P s at ≡ got x mid → Q s mid ≡ got y next → (P ⊗ Q) s at ≡ got (x, y) next
  unfolding ◌⊗◌ ◌⟫◌
  both_got a b = rw (a, b)

  pub both_first : {e : Fault} → P s at ≡ bad e → (P ⊗ Q) s at ≡ bad e
  unfolding ◌⊗◌ ◌⟫◌
  both_first a = rw a

  pub both_then : {x : A} {mid : ℕ} {e : Fault} → P s at ≡ got x mid → Q s mid ≡ bad e → (P ⊗ Q) s at ≡ bad e
  unfolding ◌⊗◌ ◌⟫◌
  both_then a b = rw (a, b)

module _ {A B : Type 0} (f : A → B) (P : Reader A) (s : List ℕ) (at : ℕ) where
  pub mapped_got : {x : A} {next : ℕ} → P s at ≡ got x next → mapped f P s at ≡ got (f x) next
  unfolding mapped ◌⟫◌
  mapped_got a = rw a

  pub mapped_from : (y : B) (next : ℕ) → mapped f P s at ≡ got y next → (x : A) × (P s at ≡ got x next) × (f x ≡ y)
  unfolding mapped
  mapped_from y next e = go (then_got (λ x at. got (f x) at) (P s at) y next e)
    where
      go : (x : A) × (mid : ℕ) × (P s at ≡ got x mid) × (◌≡◌ {A = Parsed B} (got (f x) mid) (got y next)) → (x : A) × (P s at ≡ got x next) × (f x ≡ y)
      go (x, mid, a, b) = let u : f x ≡ y = cc in let v : mid ≡ next = cc in (x, a ∙ ap (got x) v, u)

  pub mapped_bad : {e : Fault} → P s at ≡ bad e → mapped f P s at ≡ bad e
  unfolding mapped ◌⟫◌
  mapped_bad a = rw a

-- ---- what was read is good or faulty, something or nothing, and one
module _ {A : Type 0} where
  pub got_or_bad : {p : Parsed A} {x : A} {n : ℕ} {f : Fault} → p ≡ got x n → p ≡ bad f → ⊥
  got_or_bad {x = x} {n = n} {f = f} e h = let w : ◌≡◌ {A = Parsed A} (got x n) (bad f) = sym e ∙ h in let z : ◌≡◌ {A = ℕ} 0 1 = cc w in absurd (omega arith)

  pub some_or_none : {p : Option A} {x : A} → p ≡ some x → p ≡ none → ⊥
  some_or_none {x = x} e h = let w : ◌≡◌ {A = Option A} (some x) none = sym e ∙ h in let z : ◌≡◌ {A = ℕ} 0 1 = cc w in absurd (omega arith)

  pub got_one : {p : Parsed A} {x y : A} {n m : ℕ} → p ≡ got x n → p ≡ got y m → x ≡ y
  got_one {x = x} {y = y} {n = n} {m = m} e h = let w : ◌≡◌ {A = Parsed A} (got x n) (got y m) = sym e ∙ h in cc w

  pub bad_one : {p : Parsed A} {f g : Fault} → p ≡ bad f → p ≡ bad g → f ≡ g
  bad_one {f = f} {g = g} e h = let w : ◌≡◌ {A = Parsed A} (bad f) (bad g) = sym e ∙ h in cc w

  pub some_one : {p : Option A} {x y : A} → p ≡ some x → p ≡ some y → x ≡ y
  some_one {x = x} {y = y} e h = some-injective x y (sym e ∙ h)

-- ---- what code's answer says of the reading, and the reading of the answer
module _ {A B : Type 0} (f : A → B) where
  pub found_got : (p : Parsed A) {v : B} {at : ℕ} → Ok (v, at) ≡ found_as f p → (x : A) × (p ≡ got x at) × (v ≡ f x)
  found_got (got x n) {v = v} {at = at} e = let q : ◌≡◌ {A = B × ℕ} (v, at) (f x, n) = cc in (x, ap (λ w. got x w.1) (sym q), ap (λ w. w.0) q)
  found_got (bad d) e = let z : ◌≡◌ {A = ℕ} 0 1 = cc in absurd (omega arith)

  pub found_bad : (p : Parsed A) {e : Fault} → Err e ≡ found_as f p → p ≡ bad e
  found_bad (got x n) h = let z : ◌≡◌ {A = ℕ} 0 1 = cc in absurd (omega arith)
  found_bad (bad d) {e = e} h = let u : d ≡ e = cc in ap bad u

  pub as_got : {p : Parsed A} {x : A} {at : ℕ} → p ≡ got x at → Ok (f x, at) ≡ found_as f p
  as_got e = rw e

  pub as_bad : {p : Parsed A} {e : Fault} → p ≡ bad e → Err e ≡ found_as f p
  as_bad e = rw e

  -- A fault that is passed on is the reading's.
  pub passed_on : {p : Parsed A} {r : Result (B × ℕ) Fault} {e : Fault} → IsErrAnd r (λ d. d ≡ e) → p ≡ bad e → r ≡ found_as f p
  passed_on {r = r} h e = let q = err_from_is_err_and r h in rw (q.1, q.2, e)

  -- The same where code asks only whether there is a value.
  pub ok_got : (p : Parsed A) {r : Result (B × ℕ) Fault} {v : B} {at : ℕ} → r ≡ found_as f p → Some (v, at) ≡ result_ok r → (x : A) × (p ≡ got x at) × (v ≡ f x)
  ok_got p {r = r} {v = v} {at = at} e h = found_got p (is r h ∙ e)
    where
      is : (r : Result (B × ℕ) Fault) → Some (v, at) ≡ result_ok r → Ok (v, at) ≡ r
      is (Ok w) h = let q : ◌≡◌ {A = B × ℕ} (v, at) w = cc in ap Ok q
      is (Err g) h = let z : ◌≡◌ {A = ℕ} 0 1 = cc in absurd (omega arith)

  pub ok_bad : (p : Parsed A) {r : Result (B × ℕ) Fault} → r ≡ found_as f p → None ≡ result_ok r → (e : Fault) × (p ≡ bad e)
  ok_bad (got x n) {r = r} e h = let q : ◌≡◌ {A = Answer (B × ℕ)} None (Some (f x, n)) = h ∙ ap result_ok e in let z : ◌≡◌ {A = ℕ} 0 1 = cc q in absurd (omega arith)
  ok_bad (bad d) e h = (d, refl)

pub same_got : {A : Type 0} (p : Parsed A) {v : A} {at : ℕ} → Ok (v, at) ≡ found p → p ≡ got v at
same_got p {at = at} e = let q = found_got (λ x. x) p e in q.1 ∙ ap (λ x. got x at) (sym q.2)

pub same_bad : {A : Type 0} (p : Parsed A) {e : Fault} → Err e ≡ found p → p ≡ bad e
same_bad p e = found_bad (λ x. x) p e

pub same_ok_got : {A : Type 0} (p : Parsed A) {r : Result (A × ℕ) Fault} {v : A} {at : ℕ} → r ≡ found p → Some (v, at) ≡ result_ok r → p ≡ got v at
same_ok_got p {at = at} e h = let q = ok_got (λ x. x) p e h in q.1 ∙ ap (λ x. got x at) (sym q.2)

pub same_ok_bad : {A : Type 0} (p : Parsed A) {r : Result (A × ℕ) Fault} → r ≡ found p → None ≡ result_ok r → (e : Fault) × (p ≡ bad e)
same_ok_bad p e h = ok_bad (λ x. x) p e h
