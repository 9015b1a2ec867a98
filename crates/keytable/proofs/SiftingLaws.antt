-- Records that pass a test, kept by their places as they are read.
use mathlib.Core.Path.{◌≡◌, refl, sym, ◌∙◌, ap, subst, subst₂}
use mathlib.Core.Bool.{Bool, true, false}
use mathlib.Core.List.{List, [], ◌∷◌}
use Rattle.std.specs.Prelude.{Ok, Err}
use Prim.Native.Nat.{ℕ, zero, suc, ◌+◌, ◌<◌, ◌≤◌}
use native.Mathlib.Nat.{le_refl, not-suc-le-zero, le_of_suc-le-suc}
use native.Mathlib.Omega.{arith}
use lib.ListN.{length, take, get_or, set, length-append, length-set}
use lib.Seq.{length-take-le, get_or-take, get_or-set_other}
use Rattle.rules.specs.Choice.{pick}
use Rattle.rules.specs.Lists.{At, ◌▷◌}
use Rattle.rules.proofs.ListsLaws.{at_tail}
use Rattle.records.specs.Parsed.{Parsed, got, Reader, found_as}
use Rattle.records.specs.Many.{many}
use Rattle.records.specs.declared.faults.Fault.{Fault}
use Rattle.records.proofs.FormatLaws.{Walks}
use Rattle.records.proofs.ManyLaws.{going_bad, going_end}
use Rattle.records.proofs.ParsedLaws.{found_got, found_bad, as_got, as_bad}
use Rattle.table.specs.Kept.{Standing}
use Rattle.table.proofs.FindingLaws.{at_below}
use Rattle.table.proofs.KeptLaws.{standing_none, standing_more}
use Rattle.table.proofs.LoadingLaws.{Besides, ill, well, Reading, reading_start, reading_next}
use Rattle.keytable.specs.Keeping.{sift, sifted, Placed}

-- ---- what passes
module _ {A : Type 0} (f : A → Bool) where
  pub sift_kept : (l : List A) (x : A) → f x ≡ true → sift f (l ▷ x) ≡ sift f l ▷ x
  unfolding sift
  sift_kept [] x e = rw e refl
  sift_kept (y ∷ l) x e = go (f y) (sift_kept l x e)
    where
      go : (b : Bool) → sift f (l ▷ x) ≡ sift f l ▷ x → pick b (y ∷ sift f (l ▷ x)) (sift f (l ▷ x)) ≡ pick b (y ∷ sift f l) (sift f l) ▷ x
      go true h = ap (λ (m : List A). y ∷ m) h
      go false h = h

  pub sift_passed : (l : List A) (x : A) → f x ≡ false → sift f (l ▷ x) ≡ sift f l
  unfolding sift
  sift_passed [] x e = rw e refl
  sift_passed (y ∷ l) x e = ap (λ (m : List A). pick (f y) (y ∷ m) m) (sift_passed l x e)

  pub sift_few : (l : List A) → length (sift f l) ≤ length l
  unfolding sift
  sift_few [] = omega arith
  sift_few (y ∷ l) = go (f y) (sift_few l)
    where
      go : (b : Bool) → length (sift f l) ≤ length l → length (pick b (y ∷ sift f l) (sift f l)) ≤ length (y ∷ l)
      go true h = omega arith
      go false h = omega arith

  pub sift_from : (l : List A) (j : ℕ) (x : A) → At (sift f l) j x → (i : ℕ) × At l i x
  unfolding sift
  sift_from [] j x a = absurd (not-suc-le-zero a.there)
  sift_from (y ∷ l) j x a = go (f y) j a (λ j a. sift_from l j x a)
    where
      go : (b : Bool) (j : ℕ) → At (pick b (y ∷ sift f l) (sift f l)) j x → ((j : ℕ) → At (sift f l) j x → (i : ℕ) × At l i x) → (i : ℕ) × At (y ∷ l) i x
      go true zero a later = (0, record { there = omega arith; is = a.is })
      go true (suc j) a later = let r = later j (record { there = le_of_suc-le-suc a.there; is = a.is }) in (suc r.0, at_tail r.1)
      go false j a later = let r = later j a in (suc r.0, at_tail r.1)

  pub sift_to : (l : List A) (i : ℕ) (x : A) → At l i x → f x ≡ true → (j : ℕ) × At (sift f l) j x
  unfolding sift
  sift_to [] i x a e = absurd (not-suc-le-zero a.there)
  sift_to (y ∷ l) zero x a e =
      let p : f y ≡ true = ap f a.is ∙ e in
      rw p (0, record { there = omega arith; is = a.is })
  sift_to (y ∷ l) (suc i) x a e = go (f y) (sift_to l i x (record { there = le_of_suc-le-suc a.there; is = a.is }) e)
    where
      go : (b : Bool) → (j : ℕ) × At (sift f l) j x → (j : ℕ) × At (pick b (y ∷ sift f l) (sift f l)) j x
      go true r = (suc r.0, at_tail r.1)
      go false r = r

-- ---- places
module _ {A : Type 0} (P : Reader A) (s : List ℕ) where
  -- What stands behind the places that are kept may be anything.
  standing_still : (places : List ℕ) (l : List A) (at : ℕ) → Standing P s places l → Standing P s (set places (length l) at) l
  standing_still places l at w = record {
    within = λ i h. rw (get_or-set_other places (length l) i at 0 (λ e. absurd (omega (arith, h, e)))) (w.within i h);
    stands = λ i x a. let r = w.stands i x a in (r.0, rw (get_or-set_other places (length l) i at 0 (λ e. absurd (omega (arith, a.there, e)))) r.1);
  }

  -- The places alone.
  pub placed_first : (places : List ℕ) (n : ℕ) (l : List A) → Placed P s places n l → Placed P s (take n places) (length (take n places)) l
  placed_first places n l w = record {
    counted = length-take-le n places w.room ∙ w.counted;
    room = le_refl (length (take n places));
    standing = record {
      within = λ i h. rw (get_or-take n places i 0 (omega (arith, h, w.counted))) (w.standing.within i h);
      stands = λ i x a. let r = w.standing.stands i x a in (r.0, rw (get_or-take n places i 0 (omega (arith, a.there, w.counted))) r.1);
    };
  }

-- ---- so many records
sifted_apart : {A : Type 0} (f : A → Bool) (e : Fault) (l : List A) (at : ℕ) → Err e ≡ found_as (sifted f) (got l at) → ⊥
sifted_apart f e l at h = let z : ◌≡◌ {A = ℕ} 0 1 = cc in absurd (omega arith)

module _ {A : Type 0} (P : Reader A) (walks : Walks P) (f : A → Bool) (s : List ℕ) where
  -- Of `count` records from `from` on, `i` were read; `n` of them pass, and their places are kept.
  pub record Sifting (count from room : ℕ) (places : List ℕ) (at i n : ℕ) : Type 0 where
    pub size : length places ≡ room
    pub earlier : List A
    pub reading : Reading (λ e. P) (λ e. walks) s count from at i earlier
    pub kept : n ≡ length (sift f earlier)
    pub standing : Standing P s places (sift f earlier)

  pub sifting_start : (count from : ℕ) (places : List ℕ) → from ≤ length s → Sifting count from (length places) places from 0 0
  unfolding sift
  sifting_start count from places h = record {
    size = refl;
    earlier = [];
    reading = reading_start (λ e. P) (λ e. walks) s count from h;
    kept = refl;
    standing = standing_none P s places;
  }

  module _ (count from room : ℕ) (places : List ℕ) (at i n : ℕ) (r : Sifting count from room places at i n) where
    pub sifting_few : n ≤ i
    sifting_few = omega (arith, r.kept, sift_few f r.earlier, r.reading.going.read)

    module _ (few : count ≤ room) where
      pub sifting_end : count ≤ i → Besides (found_as (sifted f)) (λ (l : List A). Placed P s places (sifted f l) (sift f l)) (Ok (n, at)) (many (λ e. P) count [] s from)
      sifting_end h =
          let e = going_end (λ e. P) s count from i at r.earlier r.reading.going h in
          well (found_as (sifted f)) (λ (l : List A). Placed P s places (sifted f l) (sift f l)) (Ok (n, at)) (many (λ e. P) count [] s from) r.earlier at e
          (record { counted = refl; room = omega (arith, few, sifting_few, r.size, r.reading.most, r.kept); standing = r.standing })
          (rw r.kept (as_got (sifted f) e))

      module _ (h : i < count) where
        pub sifting_room : n < length places
        sifting_room = omega (arith, few, h, sifting_few, r.size)

        -- The next has a fault, and so have they all.
        pub sifting_bad : (e : Fault) → Err e ≡ found_as f (P s at) → Besides (found_as (sifted f)) (λ (l : List A). Placed P s places (sifted f l) (sift f l)) (Err e) (many (λ e. P) count [] s from)
        sifting_bad e q =
            ill (found_as (sifted f)) (λ (l : List A). Placed P s places (sifted f l) (sift f l)) (Err e) (many (λ e. P) count [] s from) (sifted_apart f e)
            (as_bad (sifted f) (going_bad (λ e. P) s count from i at r.earlier r.reading.going h e (found_bad f (P s at) q)))

        -- One more is read, and its place is kept if it passes.
        pub sifting_on : (b : Bool) (next : ℕ) → Ok (b, next) ≡ found_as f (P s at) → (m : ℕ) → m ≡ pick b 1 0 → Sifting count from room (set places n at) next (i + 1) (n + m)
        sifting_on b next q m k = let t = found_got f (P s at) q in one t.0 t.1 (k ∙ ap (λ (b : Bool). pick b 1 0) t.2)
          where
            one : (x : A) → P s at ≡ got x next → m ≡ pick (f x) 1 0 → Sifting count from room (set places n at) next (i + 1) (n + m)
            one x e k = record {
              size = length-set places n at ∙ r.size;
              earlier = r.earlier ▷ x;
              reading = reading_next (λ e. P) (λ e. walks) s count from at i r.earlier r.reading h x next e;
              kept = (passed (f x) refl).0;
              standing = (passed (f x) refl).1;
            }
              where
                passed : (b : Bool) → f x ≡ b → (n + m ≡ length (sift f (r.earlier ▷ x))) × Standing P s (set places n at) (sift f (r.earlier ▷ x))
                passed true p =
                    let c : m ≡ 1 = k ∙ ap (λ (b : Bool). pick b 1 0) p in (
                      omega (arith, c, r.kept, ap length (sift_kept f r.earlier x p), length-append (sift f r.earlier) (x ∷ [])),
                      subst₂ (λ (j : ℕ) (l : List A). Standing P s (set places j at) l) (sym r.kept) (sym (sift_kept f r.earlier x p))
                          (standing_more P s places (sift f r.earlier) x at next (omega (arith, sifting_room, r.kept)) r.reading.within e r.standing),
                    )
                passed false p =
                    let c : m ≡ 0 = k ∙ ap (λ (b : Bool). pick b 1 0) p in (
                      omega (arith, c, r.kept, ap length (sift_passed f r.earlier x p)),
                      subst₂ (λ (j : ℕ) (l : List A). Standing P s (set places j at) l) (sym r.kept) (sym (sift_passed f r.earlier x p))
                          (standing_still P s places (sift f r.earlier) at r.standing),
                    )

-- ---- a place that is kept: the record of its number stands there
module _ {A : Type 0} (P : Reader A) (s places : List ℕ) (count : ℕ) (l : List A) (w : Placed P s places count l) (i : ℕ) (h : i < count) where
  pub placed_stands : (get_or places i 0 ≤ length s) × (x : A) × (next : ℕ) × (P s (get_or places i 0) ≡ got x next)
  placed_stands =
      let a = at_below l i (omega (arith, h, w.counted)) in
      let r = w.standing.stands i a.0 a.1 in
      (w.standing.within i (omega (arith, h, w.counted)), a.0, r.0, r.1)

  pub placed_at : (x : A) → (next : ℕ) × (P s (get_or places i 0) ≡ got x next) → At l i x
  placed_at x (n, e) =
      let a = at_below l i (omega (arith, h, w.counted)) in
      let r = w.standing.stands i a.0 a.1 in
      let q : ◌≡◌ {A = Parsed A} (got a.0 r.0) (got x n) = sym r.1 ∙ e in
      let u : a.0 ≡ x = cc q in
      subst (At l i) u a.1
