-- A format: a reader and the bytes that it reads, with the laws of both. Formats that follow one another are a format.
use mathlib.Core.Path.{◌≡◌, refl, sym, ◌∙◌, ap, ap₂, subst}
use mathlib.Core.Bool.{Bool, true, false, not}
use mathlib.Core.Logic.{◌⊎◌, inl, inr, ◌↔◌}
use mathlib.Core.List.{List, [], ◌++◌, append_assoc, append-nil}
use Prim.Native.Nat.{ℕ, ◌+◌, ◌≤◌}
use native.Mathlib.Omega.{arith}
use lib.ListN.{length, drop, length-append}
use lib.Seq.{drop-drop, drop-append_seam}
use Rattle.rules.specs.Choice.{pick}
use Rattle.wire.specs.Number.{Bytes}
use Rattle.records.specs.Parsed.{Parsed, got, bad, Reader, fault_at, ◌⟫◌, ◌⊗◌, mapped, moved_by}
use Rattle.records.specs.declared.faults.Kind.{Kind}
use Rattle.records.specs.declared.faults.Fault.{Fault}
use Rattle.records.proofs.ParsedLaws.{then_got, then_bad, then_moved}

-- How a reader goes through bytes, whatever they are.
pub record Walks {A : Type 0} (P : Reader A) : Type 0 where
  -- Places stay within the bytes.
  pub ends : (x : A) (s : List ℕ) (at next : ℕ) → at ≤ length s → P s at ≡ got x next → (at ≤ next) × (next ≤ length s)
  pub within : (e : Fault) (s : List ℕ) (at : ℕ) → at ≤ length s → P s at ≡ bad e → e.place.offset ≤ length s
  -- The rest of the bytes reads as the whole does from there.
  pub moves : (s : List ℕ) (by at : ℕ) → P s (by + at) ≡ moved_by by (P (drop by s) at)

-- What was found: it fits, and its bytes stood there.
pub record Stood {A : Type 0} (Fit : A → Type 0) (E : A → List ℕ) (x : A) (s : List ℕ) (at next : ℕ) : Type 0 where
  pub fit : Fit x
  pub after : next ≡ at + length (E x)
  pub bytes : drop at s ≡ E x ++ drop next s

-- The reader reads the values that fit, and `E` gives a value's bytes.
pub record Format {A : Type 0} (Fit : A → Type 0) (P : Reader A) (E : A → List ℕ) : Type 0 where
  -- Reading what was encoded gives it back, whatever follows.
  pub reads : (x : A) (s : List ℕ) (at : ℕ) (rest : List ℕ) → Fit x → drop at s ≡ E x ++ rest → P s at ≡ got x (at + length (E x))
  -- What reads as good is the encoding of what was read.
  pub form : (x : A) (s : List ℕ) (at next : ℕ) → Bytes s → P s at ≡ got x next → Stood Fit E x s at next

-- The same values fit, said in other words.
pub refit : {A : Type 0} (Fit Fit' : A → Type 0) (P : Reader A) (E : A → List ℕ) → ((x : A) → Fit x ↔ Fit' x) → Format Fit P E → Format Fit' P E
refit Fit Fit' P E same p = record {
  reads = λ x s at rest fit h. p.reads x s at rest ((same x).1 fit) h;
  form = λ x s at next b e. let w = p.form x s at next b e in record { fit = (same x).0 w.fit; after = w.after; bytes = w.bytes };
}

-- The same bytes, said in other words.
pub rebyte : {A : Type 0} (Fit : A → Type 0) (P : Reader A) (E E' : A → List ℕ) → ((x : A) → Fit x → E x ≡ E' x) → Format Fit P E → Format Fit P E'
rebyte Fit P E E' same p = record {
  reads = λ x s at rest fit h. p.reads x s at rest fit (h ∙ ap (λ (l : List ℕ). l ++ rest) (sym (same x fit))) ∙ ap (λ (l : List ℕ). got x (at + length l)) (same x fit);
  form = λ x s at next b e.
      let w = p.form x s at next b e in
      record { fit = w.fit; after = w.after ∙ ap (λ (l : List ℕ). at + length l) (same x w.fit); bytes = w.bytes ∙ ap (λ (l : List ℕ). l ++ drop next s) (same x w.fit) };
}

-- What stands behind the bytes of the first.
pub behind : (s a b : List ℕ) (at : ℕ) → drop at s ≡ a ++ b → drop (at + length a) s ≡ b
behind s a b at h = sym (drop-drop (length a) at s) ∙ ap (λ (l : List ℕ). drop (length a) l) h ∙ drop-append_seam a b

-- ---- one after the other, where what is read first leads what is read then
module _ {A B : Type 0} (P : Reader A) (Q : A → Reader B) where
  abbrev pub led : Reader B
  led s at = P s at ⟫ λ x at. Q x s at

  pub led_walks : Walks P → ((x : A) → Walks (Q x)) → Walks led
  led_walks p q = record { ends = ends; within = within; moves = moves }
    where
      ends : (y : B) (s : List ℕ) (at next : ℕ) → at ≤ length s → led s at ≡ got y next → (at ≤ next) × (next ≤ length s)
      ends y s at next h e =
          let r = then_got (λ x at. Q x s at) (P s at) y next e in
          let a = p.ends r.0 s at r.1 h r.2 in
          let b = (q r.0).ends y s r.1 next a.1 r.3 in
          (omega (arith, a.0, b.0), b.1)

      within : (e : Fault) (s : List ℕ) (at : ℕ) → at ≤ length s → led s at ≡ bad e → e.place.offset ≤ length s
      within e s at h g = go (then_bad (λ x at. Q x s at) (P s at) e g)
        where
          go : (P s at ≡ bad e) ⊎ ((x : A) × (mid : ℕ) × (P s at ≡ got x mid) × (Q x s mid ≡ bad e)) → e.place.offset ≤ length s
          go (inl a) = p.within e s at h a
          go (inr r) = (q r.0).within e s r.1 (p.ends r.0 s at r.1 h r.2).1 r.3

      moves : (s : List ℕ) (by at : ℕ) → led s (by + at) ≡ moved_by by (led (drop by s) at)
      moves s by at =
          then_moved (λ x at. Q x s at) by (P s (by + at)) (P (drop by s) at) (λ x at. Q x (drop by s) at) (p.moves s by at) (λ x at. (q x).moves s by at)

  -- What fits is a pair of what fits first and what fits then, and has the bytes of both.
  module _ (FitP : A → Type 0) (E : A → List ℕ) (FitQ : A → B → Type 0) (D : A → B → List ℕ) (Fit : B → Type 0) (F : B → List ℕ) (fits : (x : A) (y : B) → FitP x → FitQ x y → Fit y)
      (parts : (y : B) → Fit y → (x : A) × FitP x × FitQ x y) (bytes : (x : A) (y : B) → FitQ x y → F y ≡ E x ++ D x y) where
    pub two_format : Format FitP P E → ((x : A) → FitP x → Format (FitQ x) (Q x) (D x)) → Format Fit led F
    unfolding ◌⟫◌
    two_format p q = record { reads = λ y s at rest fit h. reads y s at rest (parts y fit) h; form = form }
      where
        reads : (y : B) (s : List ℕ) (at : ℕ) (rest : List ℕ) → (x : A) × FitP x × FitQ x y → drop at s ≡ F y ++ rest → led s at ≡ got y (at + length (F y))
        reads y s at rest (x, fx, fy) h =
            let h₁ : drop at s ≡ E x ++ (D x y ++ rest) = h ∙ ap (λ (l : List ℕ). l ++ rest) (bytes x y fy) ∙ append_assoc (E x) (D x y) rest in
            let a = p.reads x s at (D x y ++ rest) fx h₁ in
            let b = (q x fx).reads y s (at + length (E x)) rest fy (behind s (E x) (D x y ++ rest) at h₁) in
            let n : at + length (E x) + length (D x y) ≡ at + length (F y) = omega (arith, length-append (E x) (D x y), ap length (bytes x y fy)) in
            ap (λ (f : Parsed A). f ⟫ λ x at. Q x s at) a ∙ b ∙ ap (λ (m : ℕ). got y m) n

        last : (y : B) (s : List ℕ) (at mid next : ℕ) (x : A) → Stood FitP E x s at mid → Stood (FitQ x) (D x) y s mid next → Stood Fit F y s at next
        last y s at mid next x f w =
            let e = bytes x y w.fit in
            record {
              fit = fits x y f.fit w.fit;
              after = omega (arith, length-append (E x) (D x y), f.after, w.after, ap length e);
              bytes = f.bytes ∙ ap (λ (l : List ℕ). E x ++ l) w.bytes ∙ sym (append_assoc (E x) (D x y) (drop next s)) ∙ ap (λ (l : List ℕ). l ++ drop next s) (sym e);
            }

        form : (y : B) (s : List ℕ) (at next : ℕ) → Bytes s → led s at ≡ got y next → Stood Fit F y s at next
        form y s at next b e =
            let r = then_got (λ x at. Q x s at) (P s at) y next e in
            let f = p.form r.0 s at r.1 b r.2 in
            last y s at r.1 next r.0 f ((q r.0 f.fit).form y s r.1 next b r.3)

  -- Where what was read then tells by what it was led.
  module _ (FitP : A → Type 0) (E : A → List ℕ) (FitQ : B → Type 0) (D : B → List ℕ) (lead : B → A) where
    pub led_format : Format FitP P E → ((x : A) → FitP x → Format (λ y. FitQ y × (lead y ≡ x)) (Q x) D) → Format (λ y. FitP (lead y) × FitQ y) led (λ y. E (lead y) ++ D y)
    led_format =
        two_format FitP E (λ x y. FitQ y × (lead y ≡ x)) (λ x. D) (λ y. FitP (lead y) × FitQ y) (λ y. E (lead y) ++ D y) (λ x y f g. (subst FitP (sym g.1) f, g.0))
        (λ y fit. (lead y, fit.0, (fit.1, refl))) (λ x y g. ap (λ (z : A). E z ++ D y) g.1)

-- ---- nothing is read
pub just_walks : {A : Type 0} (x : A) → Walks (λ s at. got x at)
just_walks x = record {
  ends = λ y s at next h e. let q : at ≡ next = cc in (omega arith, omega arith);
  within = λ e s at h g. let z : ◌≡◌ {A = ℕ} 0 1 = cc in absurd (omega arith);
  moves = λ s by at. refl;
}

pub just_format : {A : Type 0} (x : A) → Format (λ y. x ≡ y) (λ s at. got x at) (λ y. [])
just_format {A} x = record {
  reads = λ y s at rest e h. let n : at ≡ at + 0 = omega arith in ap₂ {C = Parsed A} (λ (z : A) (m : ℕ). got z m) e n;
  form = λ y s at next b e. let u : x ≡ y = cc in let v : at ≡ next = cc in record { fit = u; after = omega arith; bytes = ap (λ (m : ℕ). drop m s) v };
}

-- ---- what is found, made into something else
module _ {A B : Type 0} (f : A → B) (P : Reader A) where
  pub mapped_walks : Walks P → Walks (mapped f P)
  unfolding mapped
  mapped_walks p = led_walks P (λ x s at. got (f x) at) p (λ x. just_walks (f x))

  -- What fits is made of what fits, and has its bytes.
  pub made_format : (Fit : A → Type 0) (E : A → List ℕ) (Made : B → Type 0) (F : B → List ℕ) → ((x : A) → Fit x → Made (f x)) → ((y : B) → Made y → (x : A) × Fit x × (f x ≡ y))
      → ((x : A) → F (f x) ≡ E x) → Format Fit P E → Format Made (mapped f P) F
  unfolding mapped
  made_format Fit E Made F fits parts bytes p =
      two_format P (λ x s at. got (f x) at) Fit E (λ x y. f x ≡ y) (λ x y. []) Made F (λ x y h e. subst Made e (fits x h)) parts
      (λ x y e. ap F (sym e) ∙ bytes x ∙ sym (append-nil (E x))) p (λ x h. just_format (f x))

  -- Where `g` takes it back, and other things beside it are fixed.
  pub mapped_format : (Fit : A → Type 0) (E : A → List ℕ) (g : B → A) (Fixed : B → Type 0) → ((x : A) → Fixed (f x)) → ((x : A) → g (f x) ≡ x) → ((y : B) → Fixed y → f (g y) ≡ y) → Format Fit P E
      → Format (λ y. Fit (g y) × Fixed y) (mapped f P) (λ y. E (g y))
  mapped_format Fit E g Fixed fixed back there =
      made_format Fit E (λ y. Fit (g y) × Fixed y) (λ y. E (g y)) (λ x h. (subst Fit (sym (back x)) h, fixed x)) (λ y h. (g y, h.0, there y h.1)) (λ x. ap E (back x))

-- ---- a test of what was found, with a fault at its place
module _ {A : Type 0} (k : Kind) (ok : A → Bool) (P : Reader A) where
  abbrev pub checked : Reader A
  checked s at = P s at ⟫ λ x next. pick (ok x) (got x next) (bad (fault_at k at))

  pub checked_got : (x : A) (s : List ℕ) (at next : ℕ) → checked s at ≡ got x next → (P s at ≡ got x next) × (ok x ≡ true)
  checked_got x s at next e = go (then_got (λ x next. pick (ok x) (got x next) (bad (fault_at k at))) (P s at) x next e)
    where
      go : (y : A) × (mid : ℕ) × (P s at ≡ got y mid) × (pick (ok y) (got y mid) (bad (fault_at k at)) ≡ got x next) → (P s at ≡ got x next) × (ok x ≡ true)
      go r = pass (ok r.0) refl r.3
        where
          pass : (b : Bool) → ok r.0 ≡ b → pick b (got r.0 r.1) (bad (fault_at k at)) ≡ got x next → (P s at ≡ got x next) × (ok x ≡ true)
          pass true q h =
              let u : r.0 ≡ x = cc in
              let v : r.1 ≡ next = cc in
              (r.2 ∙ ap₂ {C = Parsed A} (λ (y : A) (n : ℕ). got y n) u v, sym (ap ok u) ∙ q)
          pass false q h = let z : ◌≡◌ {A = ℕ} 0 1 = cc in absurd (omega arith)

  pub checked_walks : Walks P → Walks checked
  checked_walks p = record { ends = λ x s at next h e. p.ends x s at next h (checked_got x s at next e).0; within = within; moves = moves }
    where
      within : (e : Fault) (s : List ℕ) (at : ℕ) → at ≤ length s → checked s at ≡ bad e → e.place.offset ≤ length s
      within e s at h g = go (then_bad (λ x next. pick (ok x) (got x next) (bad (fault_at k at))) (P s at) e g)
        where
          go : (P s at ≡ bad e) ⊎ ((x : A) × (mid : ℕ) × (P s at ≡ got x mid) × (pick (ok x) (got x mid) (bad (fault_at k at)) ≡ bad e)) → e.place.offset ≤ length s
          go (inl a) = p.within e s at h a
          go (inr r) = pass (ok r.0) r.3
            where
              pass : (b : Bool) → pick b (got r.0 r.1) (bad (fault_at k at)) ≡ bad e → e.place.offset ≤ length s
              pass true h' = let z : ◌≡◌ {A = ℕ} 0 1 = cc in absurd (omega arith)
              pass false h' = let u : fault_at k at ≡ e = cc in subst (λ (z : Fault). z.place.offset ≤ length s) u h

      moves : (s : List ℕ) (by at : ℕ) → checked s (by + at) ≡ moved_by by (checked (drop by s) at)
      moves s by at =
          then_moved (λ x next. pick (ok x) (got x next) (bad (fault_at k (by + at)))) by (P s (by + at)) (P (drop by s) at) (λ x next. pick (ok x) (got x next) (bad (fault_at k at))) (p.moves s by at)
          (λ x next. pass (ok x) x next)
        where
          pass : (b : Bool) (x : A) (next : ℕ) → pick b (got x (by + next)) (bad (fault_at k (by + at))) ≡ moved_by by (pick b (got x next) (bad (fault_at k at)))
          pass true x next = refl
          pass false x next = refl

  pub checked_format : (Fit : A → Type 0) (E : A → List ℕ) → Format Fit P E → Format (λ x. Fit x × (ok x ≡ true)) checked E
  unfolding ◌⟫◌
  checked_format Fit E p = record {
    reads = λ x s at rest fit h. ap (λ (q : Parsed A). q ⟫ λ x next. pick (ok x) (got x next) (bad (fault_at k at))) (p.reads x s at rest fit.0 h) ∙ rw fit.1;
    form = λ x s at next b e. let w = checked_got x s at next e in let f = p.form x s at next b w.0 in record { fit = (f.fit, w.1); after = f.after; bytes = f.bytes };
  }

-- ---- the same reader, said in other words
module _ {A : Type 0} (P Q : Reader A) (same : (s : List ℕ) (at : ℕ) → P s at ≡ Q s at) where
  pub reread_walks : Walks P → Walks Q
  reread_walks = subst (λ (R : Reader A). Walks R) (λ i s at. same s at i)

  pub reread_format : (Fit : A → Type 0) (E : A → List ℕ) → Format Fit P E → Format Fit Q E
  reread_format Fit E = subst (λ (R : Reader A). Format Fit R E) (λ i s at. same s at i)

-- ---- a test that what was found is to fail
module _ {A : Type 0} (k : Kind) (taken : A → Bool) (P : Reader A) where
  abbrev pub refused : Reader A
  refused s at = P s at ⟫ λ x next. pick (taken x) (bad (fault_at k at)) (got x next)

  abbrev free : A → Bool
  free x = not (taken x)

  turned : (s : List ℕ) (at : ℕ) → checked k free P s at ≡ refused s at
  turned s at = ap (λ (f : A → ℕ → Parsed A). P s at ⟫ f) (λ i x next. go (taken x) x next i)
    where
      go : (b : Bool) (x : A) (next : ℕ) → pick (not b) (got x next) (bad (fault_at k at)) ≡ pick b (bad (fault_at k at)) (got x next)
      go true x next = refl
      go false x next = refl

  not_true : (b : Bool) → (not b ≡ true) ↔ (b ≡ false)
  not_true true = (sym, sym)
  not_true false = (λ e. refl, λ e. refl)

  pub refused_got : (x : A) (s : List ℕ) (at next : ℕ) → refused s at ≡ got x next → (P s at ≡ got x next) × (taken x ≡ false)
  refused_got x s at next e = let w = checked_got k free P x s at next (turned s at ∙ e) in (w.0, (not_true (taken x)).0 w.1)

  pub refused_walks : Walks P → Walks refused
  refused_walks p = reread_walks (checked k free P) refused turned (checked_walks k free P p)

  pub refused_format : (Fit : A → Type 0) (E : A → List ℕ) → Format Fit P E → Format (λ x. Fit x × (taken x ≡ false)) refused E
  refused_format Fit E p =
      refit (λ x. Fit x × (free x ≡ true)) (λ x. Fit x × (taken x ≡ false)) refused E (λ x. (λ w. (w.0, (not_true (taken x)).0 w.1), λ w. (w.0, (not_true (taken x)).1 w.1)))
      (reread_format (checked k free P) refused turned (λ x. Fit x × (free x ≡ true)) E (checked_format k free P Fit E p))

-- ---- one after the other
module _ {A B : Type 0} (P : Reader A) (Q : Reader B) where
  pub both_walks : Walks P → Walks Q → Walks (P ⊗ Q)
  unfolding ◌⊗◌ mapped
  both_walks p q = led_walks P (λ x. mapped (λ y. (x, y)) Q) p (λ x. mapped_walks (λ y. (x, y)) Q q)

  pub both_format : (FitP : A → Type 0) (E : A → List ℕ) (FitQ : B → Type 0) (D : B → List ℕ) → Format FitP P E → Format FitQ Q D
      → Format (λ (w : A × B). FitP w.0 × FitQ w.1) (P ⊗ Q) (λ (w : A × B). E w.0 ++ D w.1)
  unfolding ◌⊗◌ mapped
  both_format FitP E FitQ D p q =
      led_format P (λ x. mapped (λ y. (x, y)) Q) FitP E (λ w. FitQ w.1) (λ w. D w.1) (λ w. w.0) p
      (λ x fit. mapped_format (λ y. (x, y)) Q FitQ D (λ w. w.1) (λ w. w.0 ≡ x) (λ y. refl) (λ y. refl) (λ w e. λ d. (sym e d, w.1)) q)
