-- The groups of a number by their cases: read, written, and back from a number that was read.
use mathlib.Core.Path.{◌≡◌, refl, sym, ap, ◌∙◌}
use mathlib.Core.Bool.{Bool, true, false}
use mathlib.Core.Logic.{⊎_elim}
use mathlib.Core.List.{List, [], ◌∷◌}
use Prim.Native.Nat.{ℕ, zero, suc, ◌+◌, ◌-◌, ◌*◌, ◌/◌, ◌%◌, ◌^◌, ◌≤◌, ◌<◌}
use native.Mathlib.Omega.{arith}
use lib.Dec.{leb, eqb}
use lib.ListN.{length, take}
use borrow.Author.Tests.{lt-ltb, le-ltb, le-leb, ne_eqb, leb-true, eqb-false}
use Rattle.rules.specs.Choice.{pick}
use Rattle.wire.specs.Number.{Number, Value, Cut, Wrong}
use Rattle.wire.specs.Number.{most_number, joined, groups_at, groups_of, Bytes}
use Rattle.wire.proofs.PartsLaws.{below_or}

-- ---- the first group: it is the last one, or the number goes on
pub of_last : (left v : ℕ) → v < 128 → groups_of (suc left) v ≡ v ∷ []
unfolding groups_of
of_last left v h = simp (lt-ltb v 128 h)

pub of_on : (left v : ℕ) → 128 ≤ v → groups_of (suc left) v ≡ (128 + v % 128) ∷ groups_of left (v / 128)
unfolding groups_of
of_on left v h = simp (le-ltb v 128 h)

-- What holds of the bytes in both cases holds of them.
pub of_cases : (P : List ℕ → Type 0) (left v : ℕ) → (v < 128 → P (v ∷ [])) → (128 ≤ v → P ((128 + v % 128) ∷ groups_of left (v / 128)))
    → P (groups_of (suc left) v)
of_cases P left v f g = ⊎_elim (λ h. rw (of_last left v h) (f h)) (λ h. rw (of_on left v h) (g h)) (below_or v 128)

pub first_last : (left b : ℕ) (s : List ℕ) → b < 128 → groups_at (suc left) (b ∷ s) ≡ Value b 1
unfolding groups_at
first_last left b s h = simp (lt-ltb b 128 h)

pub first_on : (left b : ℕ) (s : List ℕ) → 128 ≤ b → groups_at (suc left) (b ∷ s) ≡ joined (b - 128) (groups_at left s)
unfolding groups_at
first_on left b s h = simp (le-ltb b 128 h)

-- ---- a group, before the number that the groups after it hold
pub joined_value : (low high n : ℕ) (m : Number) → m ≡ Value high n → low < 128 → (high ≡ 0 → ⊥) → high < 2 ^ 25
    → Value (low + 128 * high) (n + 1) ≡ joined low m
unfolding joined
joined_value low high n m e l z h = simp (e, ne_eqb high 0 z, le-leb (low + 128 * high) most_number (omega arith))

-- ---- back from a number that was read
pub cut_is_none : {v n : ℕ} → Cut ≡ Value v n → ⊥
cut_is_none e = let z : ◌≡◌ {A = ℕ} 0 1 = cc in omega arith

pub wrong_is_none : {v n : ℕ} → Wrong ≡ Value v n → ⊥
wrong_is_none e = let z : ◌≡◌ {A = ℕ} 0 1 = cc in omega arith

-- What the groups after a byte with a set top bit must hold.
pub record Joins (low v n : ℕ) (m : Number) : Type 0 where
  pub high : ℕ
  pub after : ℕ
  pub found : m ≡ Value high after
  pub some : high ≡ 0 → ⊥
  pub value : v ≡ low + 128 * high
  pub most : v ≤ most_number
  pub count : n ≡ after + 1

pub joins : (low v n : ℕ) (m : Number) → joined low m ≡ Value v n → Joins low v n m
unfolding joined
joins low v n Cut e = absurd (cut_is_none e)
joins low v n Wrong e = absurd (wrong_is_none e)
joins low v n (Value high j) e = go (eqb high 0) refl (leb (low + 128 * high) most_number) refl e
  where
    go : (t : Bool) → eqb high 0 ≡ t → (u : Bool) → leb (low + 128 * high) most_number ≡ u
        → pick t Wrong (pick u (Value (low + 128 * high) (j + 1)) Wrong) ≡ Value v n → Joins low v n (Value high j)
    go true z u h p = absurd (wrong_is_none p)
    go false z false h p = absurd (wrong_is_none p)
    go false z true h p =
        let x : v ≡ low + 128 * high = cc in
        record { high = high; after = j; found = refl; some = eqb-false high 0 z; value = x; most = omega (arith, leb-true); count = cc }

-- What holds of a number that was read, where `left` bytes were left to it.
pub record Read (left v n : ℕ) (s : List ℕ) : Type 0 where
  pub small : v < 2 ^ 32
  pub some : 1 ≤ n
  pub short : n ≤ left
  pub there : n ≤ length s
  pub form : Bytes s → take n s ≡ groups_of left v

read_last : (left b : ℕ) (s : List ℕ) → b < 128 → Read (suc left) b 1 (b ∷ s)
read_last left b s h =
    record { small = omega arith; some = omega arith; short = omega arith; there = omega arith; form = λ _. sym (of_last left b h) }

read_on : (left v n b : ℕ) (s : List ℕ) → 128 ≤ b → (o : Joins (b - 128) v n (groups_at left s)) → Read left o.high o.after s
    → Read (suc left) v n (b ∷ s)
read_on left v n b s h o r = record {
  small = omega arith;
  some = omega arith;
  short = omega arith;
  there = omega arith;
  form = λ all.
      let byte = all.small 0 in
      let low : 128 + v % 128 ≡ b = omega arith in
      let high : v / 128 ≡ o.high = omega arith in
      let count : n ≡ suc o.after = omega arith in
      rw (of_on left v (omega arith), low, high, count) (ap (λ (l : List ℕ). b ∷ l) (r.form (record { small = λ i. all.small (suc i) })));
}

pub reads : (left v n : ℕ) (s : List ℕ) → groups_at left s ≡ Value v n → Read left v n s
unfolding groups_at
reads zero v n s e = absurd (wrong_is_none e)
reads (suc left) v n [] e = absurd (cut_is_none e)
reads (suc left) v n (b ∷ s) e =
    ⊎_elim (λ l. last l (sym (first_last left b s l) ∙ e))
    (λ g. let o = joins (b - 128) v n (groups_at left s) (sym (first_on left b s g) ∙ e) in
    read_on left v n b s g o (reads left o.high o.after s o.found))
    (below_or b 128)
  where
    last : b < 128 → Value b 1 ≡ Value v n → Read (suc left) v n (b ∷ s)
    last l f =
        let x : b ≡ v = cc in
        let y : 1 ≡ n = cc in
        rw (← x, ← y) (read_last left b s l)
