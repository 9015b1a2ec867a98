-- Paths and targets have one form.
use mathlib.Core.Path.{◌≡◌, refl, ap}
use mathlib.Core.Bool.{Bool, true, false}
use mathlib.Core.List.{List, [], ◌∷◌, ◌++◌}
use Prim.Native.Nat.{ℕ, zero, suc, ◌<◌, ◌≤◌, ◌^◌}
use native.Mathlib.Omega.{arith}
use lib.Dec.{eqb}
use borrow.Author.Tests.{eqb-true, eqb-false}
use lib.ListN.{length}
use Rattle.rules.specs.Choice.{pick}
use Rattle.rules.specs.Lists.{◌▷◌}
use Rattle.rules.specs.Ranges.{Between, most_base, most_names, GoodKey, GoodPath, GoodTarget}
use Rattle.rules.specs.Tables.{Path, Target, to_key, to_name}
use Rattle.rules.specs.declared.Key.{Key}
use Rattle.rules.specs.declared.Space.{Space}
use Rattle.wire.specs.Number.{bytes_of}
use Rattle.records.specs.Parsed.{Parsed, got, Reader, ◌⟫◌, ◌⊗◌, mapped}
use Rattle.records.specs.Fields.{field, space_field, key_field}
use Rattle.records.specs.Paths.{names_from, path_field, names_bytes, path_bytes}
use Rattle.records.specs.Many.{many, many_bytes}
use Rattle.records.specs.Targets.{name_fields, target_field, target_bytes}
use Rattle.records.proofs.FormatLaws.{Walks, Format, refit, rebyte, reread_walks, reread_format, led_walks, led_format, mapped_walks, made_format, both_walks, both_format}
use Rattle.records.proofs.ManyForm.{AllFit, many_walks, many_format, fit_at, at_fit}
use Rattle.records.proofs.FieldsForm.{field_walks, field_format, space_walks, space_format, key_walks, key_format}

-- ---- base names, one after the other
abbrev base : List ℕ → Reader ℕ
base earlier = field 1 most_base

abbrev Based : List ℕ → ℕ → Type 0
Based earlier b = Between 1 most_base b

names_many : (n : ℕ) (earlier : Path) (s : List ℕ) (at : ℕ) → many base n earlier s at ≡ names_from n s at
unfolding many names_from
names_many zero earlier s at = refl
names_many (suc n) earlier s at = ap (λ (f : ℕ → ℕ → Parsed Path). field 1 most_base s at ⟫ f) (λ i b at. names_many n (earlier ▷ b) s at i ⟫ λ p at. got (b ∷ p) at)

names_bytes_lem : (p : Path) → many_bytes bytes_of p ≡ names_bytes p
unfolding many_bytes names_bytes
names_bytes_lem [] = refl
names_bytes_lem (b ∷ p) = ap (λ (l : List ℕ). bytes_of b ++ l) (names_bytes_lem p)

pub names_walks : (n : ℕ) → Walks (names_from n)
names_walks n = reread_walks (many base n []) (names_from n) (names_many n []) (many_walks base (λ earlier. field_walks 1 most_base) n [])

names_format : (n : ℕ) → Format (λ p. AllFit Based [] p × (length p ≡ n)) (names_from n) names_bytes
names_format n =
    rebyte _ (names_from n) (many_bytes bytes_of) names_bytes (λ p fit. names_bytes_lem p)
    (refit (λ p. (length p ≡ n) × AllFit Based [] p) _ (names_from n) (many_bytes bytes_of) (λ p. (λ w. (w.1, w.0), λ w. (w.1, w.0)))
    (reread_format (many base n []) (names_from n) (names_many n []) _ _ (many_format base Based bytes_of (λ earlier. field_format 1 most_base (omega arith)) n [])))

-- ---- a path
pub path_walks : Walks path_field
unfolding path_field
path_walks = led_walks (field 0 most_names) names_from (field_walks 0 most_names) names_walks

pub path_format : Format GoodPath path_field path_bytes
unfolding path_field
path_format =
    refit (λ p. Between 0 most_names (length p) × AllFit Based [] p) GoodPath path_field path_bytes
    (λ p. (λ w. record { short = w.0.most; bases = λ i b. fit_at Based [] p i b w.1 }, λ w. (record { least = omega arith; most = w.short }, at_fit Based [] p w.bases)))
    (led_format (field 0 most_names) names_from (Between 0 most_names) bytes_of (AllFit Based []) names_bytes length (field_format 0 most_names (omega arith)) (λ n fit. names_format n))

-- ---- a target
pub name_walks : (spaces : ℕ) → Walks (name_fields spaces)
unfolding name_fields
name_walks spaces = mapped_walks _ _ (both_walks (space_field spaces) path_field (space_walks spaces) path_walks)

pub target_walks : (spaces : ℕ) → Walks (target_field spaces)
unfolding target_field
target_walks spaces = led_walks (field 0 1) (λ form s at. pick (eqb form 0) (mapped to_key key_field s at) (name_fields spaces s at)) (field_walks 0 1) (λ form. either (eqb form 0))
  where
    either : (b : Bool) → Walks (λ s at. pick b (mapped to_key key_field s at) (name_fields spaces s at))
    either true = mapped_walks to_key key_field key_walks
    either false = name_walks spaces

-- The first number of a target, and what stands behind it.
abbrev form : Target → ℕ
form (to_key k) = 0
form (to_name S p) = 1

abbrev behind_form : Target → List ℕ
behind_form (to_key k) = bytes_of k.0
behind_form (to_name S p) = bytes_of S.0 ++ path_bytes p

module _ (spaces : ℕ) (few : spaces ≤ 2 ^ 32) where
  key_form : Format (λ g. GoodTarget spaces g × (form g ≡ 0)) (mapped to_key key_field) behind_form
  key_form = made_format to_key key_field GoodKey (λ k. bytes_of k.0) (λ g. GoodTarget spaces g × (form g ≡ 0)) behind_form (λ k h. (h, refl)) parts (λ k. refl) key_format
    where
      parts : (g : Target) → GoodTarget spaces g × (form g ≡ 0) → (k : Key) × GoodKey k × (to_key k ≡ g)
      parts (to_key k) h = (k, h.0, refl)
      parts (to_name S p) h = absurd (omega (arith, h.1))

  name_form : Format (λ g. GoodTarget spaces g × (form g ≡ 1)) (name_fields spaces) behind_form
  unfolding name_fields
  name_form =
      made_format (λ w. to_name w.0 w.1) (space_field spaces ⊗ path_field) _ _ (λ g. GoodTarget spaces g × (form g ≡ 1)) behind_form (λ w h. (h, refl)) parts (λ w. refl)
      (both_format (space_field spaces) path_field (λ (S : Space). S.0 < spaces) (λ S. bytes_of S.0) GoodPath path_bytes (space_format spaces few) path_format)
    where
      parts : (g : Target) → GoodTarget spaces g × (form g ≡ 1) → (w : Space × Path) × ((w.0.0 < spaces) × GoodPath w.1) × (to_name w.0 w.1 ≡ g)
      parts (to_key k) h = absurd (omega (arith, h.1))
      parts (to_name S p) h = ((S, p), h.0, refl)

  by_form : (n : ℕ) → Between 0 1 n → Format (λ g. GoodTarget spaces g × (form g ≡ n)) (λ s at. pick (eqb n 0) (mapped to_key key_field s at) (name_fields spaces s at)) behind_form
  by_form n fit = go (eqb n 0) refl
    where
      go : (b : Bool) → eqb n 0 ≡ b → Format (λ g. GoodTarget spaces g × (form g ≡ n)) (λ s at. pick b (mapped to_key key_field s at) (name_fields spaces s at)) behind_form
      go true e = rw (eqb-true n 0 e) key_form
      go false e = let q : n ≡ 1 = omega (arith, fit.most, eqb-false n 0 e) in rw q name_form

  pub target_format : Format (GoodTarget spaces) (target_field spaces) target_bytes
  unfolding target_field
  target_format =
      rebyte (GoodTarget spaces) (target_field spaces) (λ g. bytes_of (form g) ++ behind_form g) target_bytes bytes
      (refit (λ g. Between 0 1 (form g) × GoodTarget spaces g) (GoodTarget spaces) (target_field spaces) (λ g. bytes_of (form g) ++ behind_form g) (λ g. (λ w. w.1, λ w. (formed g, w)))
      (led_format (field 0 1) (λ n s at. pick (eqb n 0) (mapped to_key key_field s at) (name_fields spaces s at)) (Between 0 1) bytes_of (GoodTarget spaces) behind_form form (field_format 0 1 (omega arith)) by_form))
    where
      formed : (g : Target) → Between 0 1 (form g)
      formed (to_key k) = record { least = omega arith; most = omega arith }
      formed (to_name S p) = record { least = omega arith; most = omega arith }

      bytes : (g : Target) → GoodTarget spaces g → bytes_of (form g) ++ behind_form g ≡ target_bytes g
      bytes (to_key k) fit = refl
      bytes (to_name S p) fit = refl
