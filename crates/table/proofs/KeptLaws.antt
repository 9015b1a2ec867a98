-- What code keeps of the records before: the keys of the spaces, and the names that the bindings bind.
use mathlib.Core.Path.{◌≡◌, refl, sym, ◌∙◌, ap, ap₂}
use mathlib.Core.Bool.{Bool, true, false, ◌&&◌}
use mathlib.Core.List.{List, [], ◌∷◌, map}
use Prim.Native.Nat.{ℕ, suc, ◌<◌, ◌≤◌}
use native.Mathlib.Nat.{not-suc-le-zero}
use native.Mathlib.Omega.{arith}
use native.Mathlib.Decide.{ℕ_discrete}
use lib.Dec.{eqb}
use lib.ListN.{length, take, get_or, set, length-append}
use lib.Seq.{take-suc-set, get_or-set_same, get_or-set_other}
use borrow.Author.Tests.{eq-eqb, ne_eqb}
use Rattle.rules.specs.Choice.{pick}
use Rattle.rules.specs.Lists.{At, ◌▷◌}
use Rattle.rules.specs.Ranges.{most_base}
use Rattle.rules.specs.Tables.{Binding}
use Rattle.rules.specs.declared.Space.{Space}
use Rattle.records.specs.Bindings.{is_bound, packed}
use Rattle.records.specs.Rows.{is_among}
use Rattle.records.specs.Parsed.{got, Reader}
use Rattle.records.proofs.DerivationBytesLaws.{among_snoc}
use Rattle.rules.proofs.ListsLaws.{at_one, at_end, at_before}
use Rattle.table.specs.Kept.{Kept, Standing, name_of}

module _ {A : Type 0} (f : A → ℕ) where
  pub map_snoc : (l : List A) (x : A) → map f (l ▷ x) ≡ map f l ▷ f x
  map_snoc [] x = refl
  map_snoc (y ∷ l) x = ap (λ (m : List ℕ). f y ∷ m) (map_snoc l x)

  pub kept_none : (entries : List ℕ) → Kept f entries []
  kept_none entries = record { same = refl }

  pub kept_more : (entries : List ℕ) (earlier : List A) (x : A) (v : ℕ) → length earlier < length entries → v ≡ f x → Kept f entries earlier → Kept f (set entries (length earlier) v) (earlier ▷ x)
  kept_more entries earlier x v h e k =
      let n = length earlier in
      let m : length (earlier ▷ x) ≡ suc n = omega (arith, length-append earlier (x ∷ [])) in
      record {
        same = ap (λ (j : ℕ). take j (set entries n v)) m ∙ take-suc-set entries n v h ∙ ap₂ (λ (l : List ℕ) (w : ℕ). l ▷ w) k.same e ∙ sym (map_snoc earlier x);
      }

-- ---- places
module _ {A : Type 0} (P : Reader A) (s : List ℕ) where
  pub standing_none : (places : List ℕ) → Standing P s places []
  standing_none places = record { within = λ i h. absurd (not-suc-le-zero h); stands = λ i x a. absurd (not-suc-le-zero a.there) }

  pub standing_more : (places : List ℕ) (earlier : List A) (x : A) (at next : ℕ) → length earlier < length places → at ≤ length s → P s at ≡ got x next → Standing P s places earlier
      → Standing P s (set places (length earlier) at) (earlier ▷ x)
  standing_more places earlier x at next h m e w = record { within = λ i b. low i b (ℕ_discrete i (length earlier)); stands = λ i y a. go i y a (ℕ_discrete i (length earlier)) }
    where
      low : (i : ℕ) → i < length (earlier ▷ x) → Dec (i ≡ length earlier) → get_or (set places (length earlier) at) i 0 ≤ length s
      low i b (yes q) = rw (q, get_or-set_same places (length earlier) at 0 h) m
      low i b (no q) = rw (get_or-set_other places (length earlier) i at 0 q) (w.within i (omega (arith, b, length-append earlier (x ∷ []))))

      go : (i : ℕ) (y : A) → At (earlier ▷ x) i y → Dec (i ≡ length earlier) → (n : ℕ) × (P s (get_or (set places (length earlier) at) i 0) ≡ got y n)
      go i y a (yes q) = (next, rw (q, get_or-set_same places (length earlier) at 0 h, ← at_one (at_end earlier x) (rw q at a)) e)
      go i y a (no q) = let r = w.stands i y (at_before earlier x i y a q) in (r.0, rw (get_or-set_other places (length earlier) i at 0 q) r.1)

-- ---- names
-- Every base name is in its range.
pub data Bases : List Binding → Type 0 where
  none : Bases []
  and : (l : List Binding) (x : Binding) → Bases l → x.base ≤ most_base → Bases (l ▷ x)

module _ (S : Space) (b : ℕ) (h : b ≤ most_base) where
  -- Packed names are apart where the names are.
  pub packed_apart : (x : Binding) → x.base ≤ most_base → eqb (name_of x) (packed S b) ≡ eqb x.space.0 S.0 && eqb x.base b
  packed_apart x g = go (ℕ_discrete x.space.0 S.0) (ℕ_discrete x.base b)
    where
      go : Dec (x.space.0 ≡ S.0) → Dec (x.base ≡ b) → eqb (name_of x) (packed S b) ≡ eqb x.space.0 S.0 && eqb x.base b
      go (yes p) (yes q) = rw (eq-eqb x.space.0 S.0 p, eq-eqb x.base b q) (eq-eqb (name_of x) (packed S b) (omega (arith, p, q)))
      go (yes p) (no n) = rw (eq-eqb x.space.0 S.0 p, ne_eqb x.base b n) (ne_eqb (name_of x) (packed S b) (λ e. n (omega (arith, p, e))))
      go (no n) _ = rw (ne_eqb x.space.0 S.0 n) (ne_eqb (name_of x) (packed S b) (λ e. n (omega (arith, e, g, h))))

  bound_snoc : (l : List Binding) (x : Binding) → is_bound (l ▷ x) S b ≡ pick (is_bound l S b) true (eqb x.space.0 S.0 && eqb x.base b)
  unfolding is_bound
  bound_snoc [] x = last (eqb x.space.0 S.0 && eqb x.base b)
    where
      last : (c : Bool) → pick c true false ≡ c
      last true = refl
      last false = refl
  bound_snoc (y ∷ l) x = go (eqb y.space.0 S.0 && eqb y.base b) (bound_snoc l x)
    where
      go : (c : Bool) → is_bound (l ▷ x) S b ≡ pick (is_bound l S b) true (eqb x.space.0 S.0 && eqb x.base b)
          → pick c true (is_bound (l ▷ x) S b) ≡ pick (pick c true (is_bound l S b)) true (eqb x.space.0 S.0 && eqb x.base b)
      go true e = refl
      go false e = e

  -- A name is among the packed ones if it is bound.
  pub among_bound : (l : List Binding) → Bases l → is_among (map name_of l) (packed S b) ≡ is_bound l S b
  unfolding is_among is_bound
  among_bound _ none = refl
  among_bound _ (and l x a g) =
      ap (λ (m : List ℕ). is_among m (packed S b)) (map_snoc name_of l x) ∙ among_snoc (map name_of l) (name_of x) (packed S b)
      ∙ ap₂ (λ (c d : Bool). pick c true d) (among_bound l a) (packed_apart x g) ∙ sym (bound_snoc l x)
