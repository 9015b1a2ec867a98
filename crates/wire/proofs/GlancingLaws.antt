-- A number seen at a glance is the number that is read there: both gather the same groups.
use mathlib.Core.Path.{◌≡◌, refl, sym, subst, ap, ◌∙◌}
use mathlib.Core.Logic.{⊎_elim}
use mathlib.Core.List.{List}
use Prim.Native.Nat.{ℕ, suc, ◌+◌, ◌-◌, ◌*◌, ◌%◌, ◌^◌, ◌≤◌, ◌<◌}
use native.Mathlib.Nat.{zero-lt-suc, pow-suc, pow-le-pow_right, add-mul}
use native.Mathlib.Omega.{arith}
use lib.ListN.{length, get_or, drop, length-drop}
use lib.Seq.{get_or-drop}
use Rattle.wire.specs.Number.{Value}
use Rattle.wire.specs.Number.{most_number}
use Rattle.wire.specs.Reading.{ended}
use Rattle.wire.specs.Glancing.{Glances}
use Rattle.wire.proofs.PartsLaws.{below_or}
use Rattle.wire.proofs.ReadingLaws.{Counts, first, second, third, fourth, fifth, Gathered, gathered_start, gathered_end, gathered_on, counts_here, ended_first, ended_value}

-- So many groups with a set top bit stand from the place on; the next one may be 0 only where it is the first, and `low` is.
pub record Glancing (s : List ℕ) (at low more value unit least i : ℕ) : Type 0 where
  pub few : i ≤ more
  pub small : low ≤ 1
  pub from : i ≡ 0 → least ≡ low
  pub later : 0 < i → least ≡ 1
  pub gathered : Gathered (drop at s) value unit i

pub glancing_start : (s : List ℕ) (at low more : ℕ) → low ≤ 1 → Glancing s at low more 0 1 low 0
glancing_start s at low more h = record { few = omega arith; small = h; from = λ _. refl; later = λ z. absurd (omega arith); gathered = gathered_start (drop at s) }

-- What a last group makes with those before it: at most so much, itself where it is the first, and not 0 where it is not.
within : (i unit value b last : ℕ) → Counts i unit → value < unit → b ≤ last
    → (value + b * unit ≤ (last + 1) * unit - 1) × (i ≡ 0 → value + b * unit ≡ b) × (1 ≤ b → 1 ≤ value + b * unit)
within _ _ value b last first h l = (omega arith, λ z. omega arith, λ p. omega arith)
within _ _ value b last second h l = (omega arith, λ z. absurd (omega arith), λ p. omega arith)
within _ _ value b last third h l = (omega arith, λ z. absurd (omega arith), λ p. omega arith)
within _ _ value b last fourth h l = (omega arith, λ z. absurd (omega arith), λ p. omega arith)
within _ _ value b last fifth h l = (omega arith, λ z. absurd (omega arith), λ p. omega arith)

-- Up to four groups fit in 28 bits.
pub four_fit : (i unit value low : ℕ) → Counts i unit → i < 4 → value < unit → low < 128 → (low * unit < 2 ^ 28) × (value + low * unit < 2 ^ 28) × (unit * 128 ≤ 2 ^ 28)
four_fit _ _ value low first h s l = (omega arith, omega arith, omega arith)
four_fit _ _ value low second h s l = (omega arith, omega arith, omega arith)
four_fit _ _ value low third h s l = (omega arith, omega arith, omega arith)
four_fit _ _ value low fourth h s l = (omega arith, omega arith, omega arith)
four_fit _ _ value low fifth h s l = absurd (omega arith)

-- A number of fewer bytes than the longest is less than it.
shorter : (i unit more last : ℕ) → unit ≡ 128 ^ i → i < more → 128 * unit ≤ (last + 1) * 128 ^ more
shorter i unit more last e h =
    let p : 128 ^ suc i ≤ 128 ^ more = pow-le-pow_right (zero-lt-suc 127) h in
    omega (arith, p, pow-suc 128 i, add-mul last 1 (128 ^ more))

module _ (s : List ℕ) (at low more value unit least i : ℕ) (g : Glancing s at low more value unit least i) where
  counts_now : Counts i unit
  counts_now = counts_here (drop at s) value unit i g.gathered

  pub glancing_fits : (b : ℕ) → i < more → more ≤ 4 → (b % 128 * unit < 2 ^ 28) × (value + b % 128 * unit < 2 ^ 28) × (unit * 128 ≤ 2 ^ 28)
  glancing_fits b f m = four_fit i unit value (b % 128) counts_now (omega arith) g.gathered.small (omega arith)

  -- What is seen is in its range, before the longest form and in it.
  pub glancing_short : (b last : ℕ) → i < more → value + b % 128 * unit ≤ (last + 1) * 128 ^ more - 1
  glancing_short b last f =
      let w = within i unit value (b % 128) 127 counts_now g.gathered.small (omega arith) in
      omega (arith, w.0, shorter i unit more last g.gathered.counted f)

  pub glancing_long : (b last : ℕ) → more ≤ i → b ≤ last → last < 128 → value + b % 128 * unit ≤ (last + 1) * 128 ^ more - 1
  glancing_long b last f l m =
      let q : i ≡ more = omega (arith, g.few) in
      let u : unit ≡ 128 ^ more = g.gathered.counted ∙ ap (λ (n : ℕ). 128 ^ n) q in
      let k : b % 128 ≡ b = omega arith in
      rw (k, ← u) (within i unit value b last counts_now g.gathered.small l).0

module _ (s : List ℕ) (at low more value unit least i : ℕ) (g : Glancing s at low more value unit least i) (b : ℕ) (h : at + i < length s) (e : b ≡ get_or s (at + i) 0) where
  there : i < length (drop at s)
  there = omega (arith, length-drop at s)

  byte : b ≡ get_or (drop at s) i 0
  byte = e ∙ sym (get_or-drop at s i 0)

  pub glancing_on : i < more → 128 ≤ b → b < 256 → more ≤ 4 → Glancing s at low more (value + b % 128 * unit) (unit * 128) 1 (i + 1)
  glancing_on f l m n = record {
    few = omega arith;
    small = g.small;
    from = λ z. absurd (omega arith);
    later = λ z. refl;
    gathered = gathered_on (drop at s) value unit i g.gathered b there byte l m (λ z. omega arith);
  }

  module _ (l : least ≤ b) (m : b < 128) where
    some : (i ≡ 0 → ⊥) → b ≡ 0 → ⊥
    some o z = ⊎_elim (λ p. o (omega arith)) (λ p. let f = g.later p in absurd (omega (arith, f))) (below_or i 1)

    -- The value that is seen.
    abbrev value_here : ℕ
    value_here = value + b % 128 * unit

    ends : value_here ≤ most_number → Value value_here (i + 1) ≡ ended value_here i b
    ends n =
        ⊎_elim
        (λ p. let z : i ≡ 0 = omega arith in let o : i + 1 ≡ 1 = omega arith in ap (Value value_here) o ∙ ended_first value_here i b z)
        (λ p. ended_value value_here i b (λ z. omega arith) (some (λ z. omega arith)) n)
        (below_or i 1)

    least_here : low ≤ value_here
    least_here =
        let k : b % 128 ≡ b = omega arith in
        let w = within i unit value b b (counts_now s at low more value unit least i g) g.gathered.small (omega arith) in
        rw k
        (⊎_elim
        (λ p. let z : i ≡ 0 = omega arith in omega (arith, w.1 z, g.from z))
        (λ p. let f = g.later p in omega (arith, g.small, f, w.2 (omega (arith, f))))
        (below_or i 1))

    pub glancing_told : (high : ℕ) → value_here ≤ high → high ≤ most_number → Glances low high s at value_here (at + i + 1)
    glancing_told high k n = record {
      most = k;
      least = least_here;
      told = (i + 1, sym (gathered_end (drop at s) value unit i g.gathered b there byte m (Value value_here (i + 1)) (ends (omega arith))), omega arith);
    }

-- The longest form is told whole: its last byte has no group behind it.
pub glancing_last : (s : List ℕ) (at low more value unit least i : ℕ) → Glancing s at low more value unit least i → more ≤ i → (b : ℕ) → at + more < length s → b ≡ get_or s (at + more) 0
    → (last : ℕ) → least ≤ b → b ≤ last → last < 128 → (last + 1) * 128 ^ more ≤ 2 ^ 32 → Glances low ((last + 1) * 128 ^ more - 1) s at (value + b * unit) (at + more + 1)
glancing_last s at low more value unit least i g l b h e last least_is k m n =
    let q : i ≡ more = omega (arith, g.few) in
    let r : b % 128 ≡ b = omega arith in
    let all : Glancing s at low more value unit least more = subst (Glancing s at low more value unit least) q g in
    rw (← r)
    (glancing_told s at low more value unit least more all b h e least_is (omega arith) ((last + 1) * 128 ^ more - 1)
    (glancing_long s at low more value unit least more all b last (omega arith) k m) (omega (arith, n)))
