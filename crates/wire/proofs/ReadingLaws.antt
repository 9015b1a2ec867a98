-- Reading group by group: what the groups so far hold, and what stands behind them.
use mathlib.Core.Path.{◌≡◌, refl, sym, ap, ◌∙◌}
use mathlib.Core.Bool.{Bool, true, false}
use mathlib.Core.List.{List, ◌∷◌}
use Prim.Native.Nat.{ℕ, zero, suc, ◌+◌, ◌-◌, ◌*◌, ◌%◌, ◌^◌, ◌≤◌, ◌<◌}
use native.Mathlib.Omega.{arith}
use native.Mathlib.Numerals.{add-one}
use lib.Dec.{leb, eqb}
use lib.ListN.{length, get_or, drop, drop_of_length-le}
use lib.Seq.{drop-cons}
use borrow.Author.Tests.{le-leb, lt-leb, eq-eqb, ne_eqb, eqb-false, leb-false}
use Rattle.rules.specs.Choice.{pick}
use Rattle.wire.specs.Number.{Number, Value, Cut, Wrong}
use Rattle.wire.specs.Number.{most_number, most_bytes, joined, groups_at, number_at}
use Rattle.wire.specs.Reading.{ended, behind}
use Rattle.wire.proofs.GroupsLaws.{first_last, first_on}

-- ---- what a group counts
-- Five groups, by their numbers.
pub data Counts : ℕ → ℕ → Type 0 where
  first : Counts 0 1
  second : Counts 1 128
  third : Counts 2 16384
  fourth : Counts 3 2097152
  fifth : Counts 4 268435456

pub counts : (i unit : ℕ) → i < most_bytes → unit ≡ 128 ^ i → Counts i unit
counts zero unit h e = rw e first
counts (suc zero) unit h e = rw e second
counts (suc (suc zero)) unit h e = rw e third
counts (suc (suc (suc zero))) unit h e = rw e fourth
counts (suc (suc (suc (suc zero)))) unit h e = rw e fifth
counts (suc (suc (suc (suc (suc i))))) unit h e = absurd (omega arith)

-- ---- the last byte
module _ (value i b : ℕ) where
  pub ended_first : i ≡ 0 → Value value 1 ≡ ended value i b
  unfolding ended
  ended_first e = simp (eq-eqb i 0 e)

  pub ended_zero : (i ≡ 0 → ⊥) → b ≡ 0 → Wrong ≡ ended value i b
  unfolding ended
  ended_zero o z = simp (ne_eqb i 0 o, eq-eqb b 0 z)

  module _ (o : i ≡ 0 → ⊥) (some : b ≡ 0 → ⊥) where
    pub ended_large : most_number < value → Wrong ≡ ended value i b
    unfolding ended
    ended_large h = simp (ne_eqb i 0 o, ne_eqb b 0 some, lt-leb value most_number h)

    pub ended_value : value ≤ most_number → Value value (i + 1) ≡ ended value i b
    unfolding ended
    ended_value h = simp (ne_eqb i 0 o, ne_eqb b 0 some, le-leb value most_number h)

-- It is the number of which the last byte stands behind the others.
pub ended_behind : (i value unit b : ℕ) → Counts i unit → value < unit → ended (value + b * unit) i b ≡ behind i value unit (Value b 1)
unfolding ended behind
ended_behind _ value _ b first h =
    let e : value + b * 1 ≡ b = omega arith in
    rw e
ended_behind _ value _ b second h =
    let e : value + b * 128 ≡ value + 128 * b = omega arith in
    rw e
ended_behind _ value _ b third h =
    let e : value + b * 16384 ≡ value + 16384 * b = omega arith in
    rw e
ended_behind _ value _ b fourth h =
    let e : value + b * 2097152 ≡ value + 2097152 * b = omega arith in
    rw e
ended_behind _ value _ b fifth h =
    let e : value + b * 268435456 ≡ value + 268435456 * b = omega arith in
    rw e

-- ---- one group more
-- `v` is what the group and those after it hold, `w` what all hold.
later : (i value unit low high n v w : ℕ) → v ≡ low + 128 * high → w ≡ value + unit * v → w ≡ value + low * unit + unit * 128 * high → v ≤ w
    → behind (suc i) value unit (joined low (Value high n)) ≡ behind (suc (suc i)) (value + low * unit) (unit * 128) (Value high n)
unfolding behind joined
later i value unit low high n v w e f g h = rw (← e, ← g) (go (eqb high 0) refl (leb v most_number) refl)
  where
    go : (t : Bool) → eqb high 0 ≡ t → (u : Bool) → leb v most_number ≡ u
        → behind (suc i) value unit (pick t Wrong (pick u (Value v (n + 1)) Wrong)) ≡ pick t Wrong (pick (leb w most_number) (Value w (n + suc (suc i))) Wrong)
    go true z u q = refl
    go false z false q = simp (lt-leb w most_number (omega (arith, leb-false v most_number q)))
    go false z true q =
        let k : n + 1 + suc i ≡ n + suc (suc i) = omega arith in
        rw (← f, ne_eqb v 0 (omega (arith, eqb-false high 0 z, e)), k)

pub behind_on : (i value unit low : ℕ) (m : Number) → Counts i unit → i < 4 → value < unit → behind i value unit (joined low m) ≡ behind (i + 1) (value + low * unit) (unit * 128) m
unfolding behind joined
behind_on _ value _ low Cut first h s = refl
behind_on _ value _ low Cut second h s = refl
behind_on _ value _ low Cut third h s = refl
behind_on _ value _ low Cut fourth h s = refl
behind_on _ value _ low Cut fifth h s = refl
behind_on _ value _ low Wrong first h s = refl
behind_on _ value _ low Wrong second h s = refl
behind_on _ value _ low Wrong third h s = refl
behind_on _ value _ low Wrong fourth h s = refl
behind_on _ value _ low Wrong fifth h s = refl
behind_on _ value _ low (Value high n) first h s =
    let e : low + 128 * high ≡ value + low * 1 + 128 * high = omega arith in
    rw e
behind_on _ value _ low (Value high n) second h s = later 0 value 128 low high n (low + 128 * high) (value + 128 * (low + 128 * high)) refl refl (omega arith) (omega arith)
behind_on _ value _ low (Value high n) third h s = later 1 value 16384 low high n (low + 128 * high) (value + 16384 * (low + 128 * high)) refl refl (omega arith) (omega arith)
behind_on _ value _ low (Value high n) fourth h s = later 2 value 2097152 low high n (low + 128 * high) (value + 2097152 * (low + 128 * high)) refl refl (omega arith) (omega arith)
behind_on _ value _ low (Value high n) fifth h s = absurd (omega arith)

-- A group more still fits.
pub low_fits : (i value unit low : ℕ) → Counts i unit → value < unit → low < 128
    → (low * unit < 2 ^ 35) × (value + low * unit < unit * 128) × (unit * 128 < 2 ^ 36) × (i ≡ 0 → value + low * unit < 128)
low_fits _ value _ low first h l = (omega arith, omega arith, omega arith, λ _. omega arith)
low_fits _ value _ low second h l = (omega arith, omega arith, omega arith, λ e. absurd (omega arith))
low_fits _ value _ low third h l = (omega arith, omega arith, omega arith, λ e. absurd (omega arith))
low_fits _ value _ low fourth h l = (omega arith, omega arith, omega arith, λ e. absurd (omega arith))
low_fits _ value _ low fifth h l = (omega arith, omega arith, omega arith, λ e. absurd (omega arith))

next_counts : (i unit : ℕ) → Counts i unit → (i ≡ 4 → ⊥) → (unit * 128 ≡ 128 ^ (i + 1)) × (i < 4)
next_counts _ _ first o = (refl, omega arith)
next_counts _ _ second o = (refl, omega arith)
next_counts _ _ third o = (refl, omega arith)
next_counts _ _ fourth o = (refl, omega arith)
next_counts _ _ fifth o = absurd (o refl)

-- ---- so far
-- The first `i` bytes have their top bit set; they hold `value`, and the number is what stands behind them with it.
pub record Gathered (s : List ℕ) (value unit i : ℕ) : Type 0 where
  pub few : i < most_bytes
  pub counted : unit ≡ 128 ^ i
  pub small : value < unit
  pub there : i ≤ length s
  pub is : number_at s ≡ behind i value unit (groups_at (most_bytes - i) (drop i s))

cut_behind : (i value unit : ℕ) → behind i value unit Cut ≡ Cut
unfolding behind
cut_behind zero value unit = refl
cut_behind (suc i) value unit = refl

pub gathered_start : (s : List ℕ) → Gathered s 0 1 0
unfolding behind
gathered_start s = record { few = omega arith; counted = refl; small = omega arith; there = omega arith; is = refl }

module _ (s : List ℕ) (value unit i : ℕ) (g : Gathered s value unit i) where
  pub counts_here : Counts i unit
  counts_here = counts i unit g.few g.counted

  left : most_bytes - i ≡ suc (most_bytes - (i + 1))
  left = omega (arith, g.few)

  pub gathered_cut : length s ≤ i → Cut ≡ number_at s
  unfolding groups_at
  gathered_cut h = sym (g.is ∙ rw (left, drop_of_length-le s h) (cut_behind i value unit))

  module _ (b : ℕ) (h : i < length s) (e : b ≡ get_or s i 0) where
    bytes : drop i s ≡ b ∷ drop (i + 1) s
    bytes = rw (e, add-one) (drop-cons s i 0 h)

    pub gathered_end : b < 128 → (r : Number) → r ≡ ended (value + b % 128 * unit) i b → r ≡ number_at s
    gathered_end l r q =
        let m : b % 128 ≡ b = omega arith in
        (rw m at q) ∙ ended_behind i value unit b counts_here g.small ∙ sym (g.is ∙ ap (behind i value unit) (rw (left, bytes) (first_last (most_bytes - (i + 1)) b (drop (i + 1) s) l)))

    on : 128 ≤ b → number_at s ≡ behind i value unit (joined (b - 128) (groups_at (most_bytes - (i + 1)) (drop (i + 1) s)))
    on l = g.is ∙ ap (behind i value unit) (rw (left, bytes) (first_on (most_bytes - (i + 1)) b (drop (i + 1) s) l))

    pub gathered_over : 128 ≤ b → i ≡ 4 → Wrong ≡ number_at s
    unfolding behind joined groups_at
    gathered_over l q = sym (on l ∙ rw q)

    pub gathered_on : 128 ≤ b → b < 256 → (i ≡ 4 → ⊥) → Gathered s (value + b % 128 * unit) (unit * 128) (i + 1)
    gathered_on l m o =
        let e : b % 128 ≡ b - 128 = omega arith in
        let f = low_fits i value unit (b - 128) counts_here g.small (omega arith) in
        let n = next_counts i unit counts_here o in
        rw e (record { few = omega (arith, n.1); counted = n.0; small = f.1; there = omega arith; is = on l ∙ behind_on i value unit (b - 128) _ counts_here n.1 g.small })
