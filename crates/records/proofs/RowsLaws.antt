-- Going through a row of numbers until one is the one that is looked for.
use mathlib.Core.Path.{◌≡◌, refl, sym, ◌∙◌, ap, subst}
use mathlib.Core.Bool.{Bool, true, false, ◌||◌, true≢false}
use mathlib.Core.List.{List, [], ◌∷◌}
use Prim.Native.Nat.{ℕ, zero, suc, ◌+◌, ◌*◌, ◌-◌, ◌/◌, ◌%◌, ◌<◌, ◌≤◌}
use native.Mathlib.Omega.{arith}
use native.Mathlib.Decide.{ℕ_discrete}
use lib.Dec.{eqb, ltb}
use lib.ListN.{length, get_or, set, take, drop, length-take, length-drop, length-set}
use lib.Seq.{drop-cons, length-take-le, get_or-take, get_or-drop, get_or-set_same, get_or-set_other}
use borrow.Author.Tests.{eq-eqb, ne_eqb, ltb-true, ltb-false}
use Rattle.std.specs.Prelude.{Option, Some, None, is_some, MatchOption}
use Rattle.rules.specs.Choice.{pick}
use Rattle.records.specs.Rows.{is_among, Passed, First, marks, mark_of, Marked}

-- ---- passing numbers that are others
pub passed_start : (l : List ℕ) (n : ℕ) → Passed l n 0
passed_start l n = record { most = omega arith; others = λ j h e. absurd (omega arith) }

module _ (l : List ℕ) (n i : ℕ) (p : Passed l n i) where
  pub passed_on : i < length l → (get_or l i 0 ≡ n → ⊥) → Passed l n (i + 1)
  passed_on h o = record { most = omega arith; others = λ j g. go j g (ℕ_discrete j i) }
    where
      go : (j : ℕ) → j < i + 1 → Dec (j ≡ i) → get_or l j 0 ≡ n → ⊥
      go j g (yes e) q = o (subst (λ (k : ℕ). get_or l k 0 ≡ n) e q)
      go j g (no d) q = p.others j (omega arith) q

-- ---- whether a number is among them
pub among_here : (l : List ℕ) (n i : ℕ) → i < length l → get_or l i 0 ≡ n → is_among l n ≡ true
unfolding is_among
among_here [] n i h e = absurd (omega arith)
among_here (m ∷ l) n zero h e = rw (eq-eqb m n e)
among_here (m ∷ l) n (suc i) h e = rw (among_here l n i (omega arith) e) (always (eqb m n))
  where
    always : (b : Bool) → pick b true true ≡ true
    always true = refl
    always false = refl

pub among_nowhere : (l : List ℕ) (n : ℕ) → ((i : ℕ) → i < length l → get_or l i 0 ≡ n → ⊥) → is_among l n ≡ false
unfolding is_among
among_nowhere [] n o = refl
among_nowhere (m ∷ l) n o = rw (ne_eqb m n (o 0 (omega arith))) (among_nowhere l n (λ i h. o (suc i) (omega arith)))

pub first_among : (l : List ℕ) (n : ℕ) (r : Option ℕ) → MatchOption r (Passed l n (length l)) (λ at. First l n at) → is_some r ≡ is_among l n
first_among l n None p = sym (among_nowhere l n p.others)
first_among l n (Some i) f = sym (among_here l n i f.there f.here)

-- ---- eight at once
eight : (a b c d e f g h : Bool) → (((((((a || b) || c) || d) || e) || f) || g) || h) ≡ (a || (b || (c || (d || (e || (f || (g || (h || false))))))))
eight true b c d e f g h = refl
eight false true c d e f g h = refl
eight false false true d e f g h = refl
eight false false false true e f g h = refl
eight false false false false true f g h = refl
eight false false false false false true g h = refl
eight false false false false false false true h = refl
eight false false false false false false false true = refl
eight false false false false false false false false = refl

module _ (l : List ℕ) (n : ℕ) where
  either : (a b : Bool) → pick a true b ≡ (a || b)
  either true b = refl
  either false b = refl

  abbrev is : ℕ → Bool
  is k = eqb (get_or l k 0) n

  on : (j k m : ℕ) → j < length l → k ≡ suc j → (b : Bool) → b ≡ is_among (take m (drop k l)) n → (is j || b) ≡ is_among (take (suc m) (drop j l)) n
  unfolding is_among
  on j k m h q b e = rw (drop-cons l j 0 h, ← q, ← e) (sym (either (is j) b))

  none : (k : ℕ) → false ≡ is_among (take 0 (drop k l)) n
  unfolding is_among
  none k = refl

  module _ (i : ℕ) (h : i + 8 ≤ length l) where
    pub eight_among : (((((((is i || is (i + 1)) || is (i + 2)) || is (i + 3)) || is (i + 4)) || is (i + 5)) || is (i + 6)) || is (i + 7)) ≡ is_among (take 8 (drop i l)) n
    eight_among =
        eight (is i) (is (i + 1)) (is (i + 2)) (is (i + 3)) (is (i + 4)) (is (i + 5)) (is (i + 6)) (is (i + 7))
        ∙ on i (i + 1) 7 (omega arith) (omega arith) _ (on (i + 1) (i + 2) 6 (omega arith) (omega arith) _ (on (i + 2) (i + 3) 5 (omega arith) (omega arith) _ (on (i + 3) (i + 4) 4 (omega arith) (omega arith) _ (on (i + 4) (i + 5) 3 (omega arith) (omega arith) _ (on (i + 5) (i + 6) 2 (omega arith) (omega arith) _ (on (i + 6) (i + 7) 1 (omega arith) (omega arith) _ (on (i + 7) (i + 8) 0 (omega arith) (omega arith) _ (none (i + 8)))))))))

    pub passed_eight : Passed l n i → is_among (take 8 (drop i l)) n ≡ false → Passed l n (i + 8)
    passed_eight p e = record { most = h; others = λ j g q. go j q g (ltb j i) refl }
      where
        go : (j : ℕ) → get_or l j 0 ≡ n → j < i + 8 → (b : Bool) → ltb j i ≡ b → ⊥
        go j q g true w = p.others j (ltb-true j i w) q
        go j q g false w =
            let b : i ≤ j = ltb-false j i w in
            let s : i + (j - i) ≡ j = omega arith in
            true≢false (sym (among_here (take 8 (drop i l)) n (j - i) (omega (arith, length-take 8 (drop i l), length-drop i l)) (get_or-take 8 (drop i l) (j - i) 0 (omega arith) ∙ get_or-drop i l (j - i) 0 ∙ ap (λ (k : ℕ). get_or l k 0) s ∙ q)) ∙ e)

-- ---- marks
-- As code computes the place of a mark.
pub mark_place : (n : ℕ) → ((n % 65536 + n / 65536 * 8) % 512 ≡ mark_of n) × ((n % 65536 + n / 65536 * 8) % 512 < 512)
unfolding mark_of
mark_place n = (refl, omega arith)

-- It is in the row.
mark_fits : (n : ℕ) → mark_of n < marks
mark_fits n = subst (λ (k : ℕ). k < marks) (mark_place n).0 (mark_place n).1

-- A number whose mark is 0 is not among those that are marked.
pub unmarked : (m l : List ℕ) (n k : ℕ) → Marked m l → k ≡ mark_of n → get_or m k 0 ≡ 0 → false ≡ is_among l n
unmarked m l n k a e z = sym (among_nowhere l n (λ i h q.
    let g : 0 < get_or m k 0 = subst (λ (j : ℕ). 0 < get_or m j 0) (ap mark_of q ∙ sym e) (a.marked i h) in
    absurd (omega (arith, g, z))))

-- In an empty row there is nothing to mark.
pub marked_start : (m l : List ℕ) → marks ≤ length m → Marked m (take 0 l)
marked_start m l h = record { room = h; marked = λ i g. absurd (omega arith) }

-- With one more number, which is marked, all are marked.
pub marked_on : (m l : List ℕ) (i n : ℕ) → i < length l → Marked m (take i l) → Marked (set m (mark_of n) 1) (take (i + 1) (set l i n))
marked_on m l i n h a = record { room = omega (arith, length-set m (mark_of n) 1, a.room); marked = λ j g. go j (omega (arith, g, length-take (i + 1) (set l i n))) (ℕ_discrete j i) }
  where
    -- What is marked stays so.
    stays : (k : ℕ) → 0 < get_or m k 0 → 0 < get_or (set m (mark_of n) 1) k 0
    stays k g = still (ℕ_discrete k (mark_of n))
      where
        still : Dec (k ≡ mark_of n) → 0 < get_or (set m (mark_of n) 1) k 0
        still (yes e) = rw (e, get_or-set_same m (mark_of n) 1 0 (omega (arith, mark_fits n, a.room))) (omega arith)
        still (no o) = rw (get_or-set_other m (mark_of n) k 1 0 o) g

    go : (j : ℕ) → j < i + 1 → Dec (j ≡ i) → 0 < get_or (set m (mark_of n) 1) (mark_of (get_or (take (i + 1) (set l i n)) j 0)) 0
    go j g (yes e) =
        rw (get_or-take (i + 1) (set l i n) j 0 g, e, get_or-set_same l i n 0 h, get_or-set_same m (mark_of n) 1 0 (omega (arith, mark_fits n, a.room))) (omega arith)
    go j g (no o) =
        rw (get_or-take (i + 1) (set l i n) j 0 g, get_or-set_other l i j n 0 o)
        (stays (mark_of (get_or l j 0)) (subst (λ (x : ℕ). 0 < get_or m (mark_of x) 0) (get_or-take i l j 0 (omega arith)) (a.marked j (omega (arith, length-take-le i l (omega arith))))))
