-- Laws of numbers as bytes: what was written reads back, and what reads as a number is its one form.
use mathlib.Core.Path.{◌≡◌, sym, ap, ap₂, ◌∙◌}
use mathlib.Core.Logic.{⊎_elim}
use mathlib.Core.List.{List, [], ◌∷◌, ◌++◌}
use Prim.Native.Nat.{ℕ, zero, suc, ◌+◌, ◌-◌, ◌*◌, ◌/◌, ◌%◌, ◌^◌, ◌≤◌, ◌<◌}
use native.Mathlib.Nat.{pow-suc}
use native.Mathlib.Omega.{arith}
use lib.ListN.{length, get_or, take, drop, take-append-drop}
use lib.Seq.{length-take-le, get_or-drop, get_or-append-add}
use Rattle.wire.specs.Number.{Value}
use Rattle.wire.specs.Number.{groups_at, groups_of, number_at, bytes_of, Bytes}
use Rattle.wire.proofs.PartsLaws.{below_or}
use Rattle.wire.proofs.GroupsLaws.{of_last, of_on, of_cases, first_last, first_on, joined_value, reads}

-- ---- the bytes of a number
-- One byte more makes no difference where there are enough.
enough : (k v : ℕ) → v < 128 ^ suc k → groups_of (suc k) v ≡ groups_of (suc (suc k)) v
enough zero v h = rw (of_last 0 v, of_last 1 v)
enough (suc k) v h =
    ⊎_elim (λ l. rw (of_last (suc k) v l, of_last (suc (suc k)) v l))
    (λ g. rw (of_on (suc k) v g, of_on (suc (suc k)) v g, enough k (v / 128) (omega (arith, pow-suc 128 (suc k)))))
    (below_or v 128)

pub bytes_last : (v : ℕ) → v < 128 → bytes_of v ≡ v ∷ []
bytes_last v h = of_last 4 v h

pub bytes_on : (v : ℕ) → 128 ≤ v → v < 2 ^ 32 → bytes_of v ≡ (128 + v % 128) ∷ bytes_of (v / 128)
bytes_on v h f = of_on 4 v h ∙ ap (λ (l : List ℕ). (128 + v % 128) ∷ l) (enough 3 (v / 128) (omega arith))

-- ---- lengths
of_short : (left v : ℕ) → length (groups_of left v) ≤ left
unfolding groups_of
of_short zero v = omega arith
of_short (suc left) v = of_cases (λ l. length l ≤ suc left) left v (λ h. omega arith) (λ h. omega (arith, of_short left (v / 128)))

of_within : (left k v : ℕ) → v < 128 ^ suc k → length (groups_of left v) ≤ suc k
unfolding groups_of
of_within zero k v h = omega arith
of_within (suc left) zero v h = rw (of_last left v) (omega arith)
of_within (suc left) (suc k) v h =
    of_cases (λ l. length l ≤ suc (suc k)) left v (λ _. omega arith)
    (λ _. omega (arith, of_within left k (v / 128) (omega (arith, pow-suc 128 (suc k)))))

-- A number takes a byte at least.
pub bytes_some : (v : ℕ) → 1 ≤ length (bytes_of v)
bytes_some v = of_cases (λ l. 1 ≤ length l) 4 v (λ h. omega arith) (λ h. omega arith)

-- It takes five bytes at most.
pub bytes_short : (v : ℕ) → length (bytes_of v) ≤ 5
bytes_short v = of_short 5 v

-- A number of so many groups takes no more bytes.
pub bytes_within : (k v : ℕ) → v < 128 ^ suc k → length (bytes_of v) ≤ suc k
bytes_within k v h = of_within 5 k v h

-- ---- reading what was written
back_last : (left v : ℕ) (rest : List ℕ) → v < 128 → groups_at (suc left) (groups_of (suc left) v ++ rest) ≡ Value v (length (groups_of (suc left) v))
back_last left v rest h = rw (of_last left v h) (first_last left v rest h)

back_on : (left v : ℕ) (rest : List ℕ) → v < 2 ^ 32 → 128 ≤ v
    → groups_at left (groups_of left (v / 128) ++ rest) ≡ Value (v / 128) (length (groups_of left (v / 128)))
    → groups_at (suc left) (groups_of (suc left) v ++ rest) ≡ Value v (length (groups_of (suc left) v))
back_on left v rest f h after =
    let n = length (groups_of left (v / 128)) in
    let whole : 128 + v % 128 - 128 + 128 * (v / 128) ≡ v = omega arith in
    let count : n + 1 ≡ suc n = omega arith in
    rw (of_on left v h)
    (first_on left (128 + v % 128) (groups_of left (v / 128) ++ rest) (omega arith)
    ∙ sym (joined_value (128 + v % 128 - 128) (v / 128) n _ after (omega arith) (omega arith) (omega arith))
    ∙ ap₂ Value whole count)

back : (left v : ℕ) (rest : List ℕ) → v < 2 ^ 32 → v < 128 ^ suc left
    → groups_at (suc left) (groups_of (suc left) v ++ rest) ≡ Value v (length (groups_of (suc left) v))
back zero v rest f h = back_last zero v rest (omega arith)
back (suc left) v rest f h =
    ⊎_elim (λ l. back_last (suc left) v rest l)
    (λ g. back_on (suc left) v rest f g (back left (v / 128) rest (omega arith) (omega (arith, pow-suc 128 (suc left)))))
    (below_or v 128)

-- Reading the bytes of a number gives it back, whatever follows.
pub number_read : (v : ℕ) (rest : List ℕ) → v < 2 ^ 32 → number_at (bytes_of v ++ rest) ≡ Value v (length (bytes_of v))
number_read v rest f = back 4 v rest f (omega arith)

-- ---- what is read
module _ (v n : ℕ) (s : List ℕ) where
  -- A number is at most 4,294,967,295.
  pub number_small : number_at s ≡ Value v n → v < 2 ^ 32
  number_small e = (reads 5 v n s e).small

  -- It takes a byte at least,
  pub number_some : number_at s ≡ Value v n → 1 ≤ n
  number_some e = (reads 5 v n s e).some

  -- at most five,
  pub number_short : number_at s ≡ Value v n → n ≤ 5
  number_short e = (reads 5 v n s e).short

  -- and only bytes that are there.
  pub number_there : number_at s ≡ Value v n → n ≤ length s
  number_there e = (reads 5 v n s e).there

  -- What reads as a number is its one form.
  pub number_form : Bytes s → number_at s ≡ Value v n → (n ≡ length (bytes_of v)) × (take n s ≡ bytes_of v)
  number_form b e =
      let form = (reads 5 v n s e).form b in
      (sym (length-take-le n s (number_there e)) ∙ ap length form, form)

-- ---- rows of bytes
pub bytes_none : Bytes []
bytes_none = record { small = λ i. omega arith }

pub bytes_cons : (b : ℕ) (s : List ℕ) → b < 256 → Bytes s → Bytes (b ∷ s)
bytes_cons b s h all = record { small = each }
  where
    each : (i : ℕ) → get_or (b ∷ s) i 0 < 256
    each zero = h
    each (suc i) = all.small i

groups_bytes : (left v : ℕ) → Bytes (groups_of left v)
unfolding groups_of
groups_bytes zero v = bytes_none
groups_bytes (suc left) v =
    of_cases Bytes left v (λ h. bytes_cons v [] (omega arith) bytes_none)
    (λ h. bytes_cons (128 + v % 128) (groups_of left (v / 128)) (omega arith) (groups_bytes left (v / 128)))

-- A number is written in bytes.
pub bytes_number : (v : ℕ) → Bytes (bytes_of v)
bytes_number v = groups_bytes 5 v

-- Parts of a row of bytes are bytes, and so are two rows together.
pub bytes_drop : (a : ℕ) (s : List ℕ) → Bytes s → Bytes (drop a s)
bytes_drop a s all = record { small = λ i. rw get_or-drop (all.small (a + i)) }

pub bytes_append : (x y : List ℕ) → Bytes (x ++ y) → Bytes x × Bytes y
bytes_append x y all = (record { small = first x all }, record { small = λ i. rw get_or-append-add at (all.small (length x + i)) })
  where
    first : (x : List ℕ) → Bytes (x ++ y) → (i : ℕ) → get_or x i 0 < 256
    first [] all i = omega arith
    first (b ∷ x) all zero = all.small 0
    first (b ∷ x) all (suc i) = first x (record { small = λ j. all.small (suc j) }) i

pub bytes_both : (x y : List ℕ) → Bytes x → Bytes y → Bytes (x ++ y)
bytes_both [] y a b = b
bytes_both (z ∷ x) y a b = bytes_cons z (x ++ y) (a.small 0) (bytes_both x y (record { small = λ i. a.small (suc i) }) b)

pub bytes_take : (n : ℕ) (s : List ℕ) → Bytes s → Bytes (take n s)
bytes_take n s all = (bytes_append (take n s) (drop n s) (rw take-append-drop all)).0
