-- How many bytes a derivation takes.
use mathlib.Core.Path.{◌≡◌, refl, sym, ◌∙◌, ap, subst}
use mathlib.Core.List.{List, [], ◌∷◌, ◌++◌}
use Prim.Native.Nat.{ℕ, suc, ◌+◌, ◌*◌, ◌/◌, ◌<◌, ◌≤◌}
use native.Mathlib.Numerals.{add-one}
use native.Mathlib.Omega.{arith}
use lib.ListN.{length, take, length-append}
use lib.Seq.{take_all}
use Rattle.std.specs.Prelude.{Some, None}
use Rattle.rules.specs.Depths.{top}
use Rattle.rules.specs.Ranges.{most_bindings}
use Rattle.rules.specs.Sheets.{entry}
use Rattle.rules.specs.Derivations.{Derivation}
use Rattle.wire.specs.Number.{bytes_of}
use Rattle.wire.proofs.NumberLaws.{bytes_last, bytes_on, bytes_short}
use Rattle.records.specs.Many.{many_bytes}
use Rattle.records.specs.DerivationBytes.{chain_bytes, derivation_bytes}
use Rattle.records.proofs.ManyLaws.{many_take}
use Rattle.decision.specs.Writing.{WritesDerivation, bytes, overrun}
use Rattle.wire.specs.Placed.{placed}

pub size_one : (v : ℕ) → v < 128 → 1 ≡ length (bytes_of v)
size_one v h = sym (ap length (bytes_last v h))

pub size_two : (v : ℕ) → 128 ≤ v → v < 16384 → 2 ≡ length (bytes_of v)
size_two v a h = sym (ap length (bytes_on v a (omega arith)) ∙ ap suc (sym (size_one (v / 128) (omega arith))))

pub size_three : (v : ℕ) → 16384 ≤ v → v < 65536 → 3 ≡ length (bytes_of v)
size_three v a h = sym (ap length (bytes_on v (omega arith) (omega arith)) ∙ ap suc (sym (size_two (v / 128) (omega arith) (omega arith))))

-- ---- the loop
pub record Summed (numbers : List ℕ) (sum i : ℕ) : Type 0 where
  pub most : i ≤ length numbers
  pub small : sum ≤ 5 * i
  pub is : sum ≡ length (many_bytes bytes_of (take i numbers))

pub summed_start : (numbers : List ℕ) → Summed numbers 0 0
unfolding many_bytes
summed_start numbers = record { most = omega arith; small = omega arith; is = refl }

pub summed_on : (numbers : List ℕ) (sum i n : ℕ) → Summed numbers sum i → i < length numbers → n ≡ length (bytes_of (entry numbers i)) → Summed numbers (sum + n) (i + 1)
summed_on numbers sum i n w h e = record {
  most = omega arith;
  small = omega (arith, w.small, e, bytes_short (entry numbers i));
  is = omega (arith, w.is, e, ap length (many_take bytes_of numbers i 0 h), length-append (many_bytes bytes_of (take i numbers)) (bytes_of (entry numbers i)));
}

pub summed_end : (numbers : List ℕ) (sum i : ℕ) → Summed numbers sum i → length numbers ≤ i → sum ≡ length (many_bytes bytes_of numbers)
summed_end numbers sum i w h = w.is ∙ ap (λ (l : List ℕ). length (many_bytes bytes_of l)) (take_all i numbers h)

pub sum_fits : (numbers : List ℕ) (sum i n x : ℕ) → Summed numbers sum i → i < length numbers → length numbers ≤ most_bindings → n ≡ length (bytes_of x) → sum + n ≤ 1285
sum_fits numbers sum i n x w h few e = omega (arith, w.small, e, bytes_short x)

pub many_short : (l : List ℕ) → length (many_bytes bytes_of l) ≤ 5 * length l
unfolding many_bytes
many_short [] = omega arith
many_short (x ∷ l) = omega (arith, length-append (bytes_of x) (many_bytes bytes_of l), bytes_short x, many_short l)

-- ---- a derivation's bytes
pub derivation_size : (v : Derivation) → length (derivation_bytes v)
    ≡ (length (bytes_of (length v.bindings)) + length (many_bytes bytes_of v.bindings)) + (length (bytes_of (length v.delegations + 1)) + length (bytes_of v.access) + length (many_bytes bytes_of v.delegations))
derivation_size v =
    omega (
      arith,
      length-append (bytes_of (length v.bindings) ++ many_bytes bytes_of v.bindings) (chain_bytes v.access v.delegations),
      length-append (bytes_of (length v.bindings)) (many_bytes bytes_of v.bindings),
      length-append (bytes_of (suc (length v.delegations))) (bytes_of v.access ++ many_bytes bytes_of v.delegations),
      length-append (bytes_of v.access) (many_bytes bytes_of v.delegations),
      ap (λ (n : ℕ). length (bytes_of n)) (add-one (length v.delegations)),
    )

-- ---- as code adds them up
module _ (bindings chain : List ℕ) (access : ℕ) (few : length bindings ≤ most_bindings) (short : length chain ≤ top) (a b c d e : ℕ) (p : a ≡ length (bytes_of (length bindings))) (q : b ≡ length (many_bytes bytes_of bindings))
    (u : c ≡ length (bytes_of (length chain + 1))) (v : d ≡ length (bytes_of access)) (w : e ≡ length (many_bytes bytes_of chain)) where
  abbrev this : Derivation
  this = record { bindings = bindings; access = access; delegations = chain }

  is_size : length (derivation_bytes this) ≡ (a + b) + (c + d + e)
  is_size = omega (arith, derivation_size this, p, q, u, v, w)

  pub size_fits : (a + b) + (c + d + e) ≤ 2000
  size_fits = omega (arith, p, bytes_short (length bindings), q, many_short bindings, few, u, bytes_short (length chain + 1), v, bytes_short access, w, many_short chain, short)

  pub too_long : (out : List ℕ) → 512 < (a + b) + (c + d + e) → WritesDerivation this out out None
  too_long out h = overrun (omega (arith, is_size)) refl

  pub wrote_it : (before after : List ℕ) (n : ℕ) → (a + b) + (c + d + e) ≤ 512 → (n ≡ length (derivation_bytes this)) × (after ≡ placed before 0 (derivation_bytes this)) → WritesDerivation this before after (Some n)
  wrote_it before after n h (x, y) = subst (λ (m : ℕ). WritesDerivation this before after (Some m)) (sym x) (bytes (omega (arith, is_size)) y)

pub listing_fits : (bindings : List ℕ) → length bindings ≤ most_bindings → (n a b : ℕ) → a ≡ length (bytes_of n) → b ≡ length (many_bytes bytes_of bindings) → a + b ≤ 1285
listing_fits bindings few n a b p q = omega (arith, p, bytes_short n, q, many_short bindings, few)

pub ending_fits : (m n c d : ℕ) → c ≡ length (bytes_of m) → d ≡ length (bytes_of n) → c + d ≤ 10
ending_fits m n c d p q = omega (arith, p, bytes_short m, q, bytes_short n)
