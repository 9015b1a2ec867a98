-- Laws of records that are passed over: what is told of parts is told of the whole.
use mathlib.Core.Path.{◌≡◌, refl, sym, ◌∙◌, ap}
use mathlib.Core.Bool.{Bool}
use mathlib.Core.List.{List, [], ◌∷◌}
use Prim.Native.Nat.{ℕ, zero, suc, ◌+◌, ◌-◌, ◌*◌, ◌≤◌, ◌<◌}
use native.Mathlib.Omega.{arith}
use borrow.Author.Tests.{le-leb, lt-ltb, ne_eqb}
use Rattle.rules.specs.Depths.{top}
use Rattle.rules.specs.Ranges.{most_key, most_object, most_right, most_base, most_names}
use Rattle.rules.specs.Tables.{Path, to_key, to_name}
use Rattle.rules.specs.declared.Key.{Key}
use Rattle.wire.specs.Glancing.{Glances}
use Rattle.records.specs.Parsed.{got, Reader, ◌⊗◌, mapped}
use Rattle.records.specs.Fields.{found_at, any_number, field, space_field, key_field, depth_field, use_fields}
use Rattle.records.specs.Paths.{names_from, path_field}
use Rattle.records.specs.Targets.{target_field, name_fields}
use Rattle.records.specs.Bindings.{binding_record}
use Rattle.records.specs.Accesses.{access_record}
use Rattle.records.specs.Delegations.{delegation_record}
use Rattle.records.specs.KeyRecords.{key_access_record, key_delegation_record}
use Rattle.records.specs.Passing.{Passes, PassesBinding, Sifts}
use Rattle.records.proofs.ParsedLaws.{got_then, both_got, mapped_got}

-- ---- one number
module _ (low high : ℕ) (s : List ℕ) (at v n : ℕ) (g : Glances low high s at v n) where
  seen : any_number s at ≡ got v n
  unfolding any_number found_at
  seen = rw g.told.1 (ap (got v) (sym g.told.2))

  pub field_seen : (lo hi : ℕ) → lo ≤ low → high ≤ hi → field lo hi s at ≡ got v n
  unfolding field
  field_seen lo hi l u = got_then (any_number s at) _ seen ∙ simp (le-leb lo v (omega (arith, g.least)), le-leb v hi (omega (arith, g.most)))

  pub space_seen : (spaces : ℕ) → v < spaces → space_field spaces s at ≡ got (record { 0 = v }) n
  unfolding space_field
  space_seen spaces l = mapped_got _ _ s at (got_then (any_number s at) _ seen ∙ simp (lt-ltb v spaces l))

  pub depth_seen : high ≤ top → depth_field s at ≡ got v n
  unfolding depth_field
  depth_seen u = got_then (any_number s at) _ seen ∙ simp (le-leb v top (omega (arith, g.most)))

pub key_seen : (s : List ℕ) (at v n : ℕ) → field 1 most_key s at ≡ got v n → key_field s at ≡ got (record { 0 = v }) n
unfolding key_field
key_seen s at v n g = mapped_got _ (field 1 most_key) s at g

pub use_seen : (s : List ℕ) (at a b middle next : ℕ) → field 0 most_object s at ≡ got a middle → field 1 most_right s middle ≡ got b next → use_fields s at ≡ got (a, b) next
unfolding use_fields
use_seen s at a b middle next p q = both_got (field 0 most_object) (field 1 most_right) s at p q

-- ---- one behind the other
pub passes_both : {A B : Type 0} (P : Reader A) (Q : Reader B) (s : List ℕ) (at middle next : ℕ) → Passes P s at middle → Passes Q s middle next → Passes (P ⊗ Q) s at next
passes_both P Q s at middle next p q = ((p.0, q.0), both_got P Q s at p.1 q.1)

pub passes_mapped : {A B : Type 0} (f : A → B) (P : Reader A) (s : List ℕ) (at next : ℕ) → Passes P s at next → Passes (mapped f P) s at next
passes_mapped f P s at next p = (f p.0, mapped_got f P s at p.1)

-- ---- paths
-- Where the names that are left are good, all are.
pub record Names (count : ℕ) (s : List ℕ) (from at i : ℕ) : Type 0 where
  pub few : i ≤ count
  pub goes : (q : Path) (next : ℕ) → names_from (count - i) s at ≡ got q next → (p : Path) × (names_from count s from ≡ got p next)

pub names_start : (count : ℕ) (s : List ℕ) (from : ℕ) → Names count s from from 0
names_start count s from = record { few = omega arith; goes = λ q next e. let z : count - 0 ≡ count = omega arith in (q, rw z at e) }

module _ (count : ℕ) (s : List ℕ) (from at i : ℕ) (n : Names count s from at i) where
  pub names_on : (v at' : ℕ) → i < count → field 1 most_base s at ≡ got v at' → Names count s from at' (i + 1)
  unfolding names_from
  names_on v at' h p = record {
    few = omega arith;
    goes = λ q next e.
        let k : count - i ≡ suc (count - (i + 1)) = omega arith in
        n.goes (v ∷ q) next (rw k (got_then (field 1 most_base s at) _ p ∙ got_then (names_from (count - (i + 1)) s at') _ e));
  }

  pub names_end : count ≤ i → Passes (names_from count) s from at
  unfolding names_from
  names_end h = let k : count - i ≡ zero = omega arith in n.goes [] at (rw k)

pub path_passes : (s : List ℕ) (at count first next : ℕ) → field 0 most_names s at ≡ got count first → Passes (names_from count) s first next → Passes path_field s at next
unfolding path_field
path_passes s at count first next p q = (q.0, got_then (field 0 most_names s at) _ p ∙ q.1)

-- ---- targets and bindings
module _ (spaces : ℕ) (s : List ℕ) (at form middle next : ℕ) (p : field 0 1 s at ≡ got form middle) where
  pub target_key_lem : form ≡ 0 → Passes key_field s middle next → Passes (target_field spaces) s at next
  unfolding target_field
  target_key_lem e q = (to_key q.0, got_then (field 0 1 s at) _ p ∙ rw e (mapped_got to_key key_field s middle q.1))

  pub target_name : (form ≡ 0 → ⊥) → Passes (space_field spaces ⊗ path_field) s middle next → Passes (target_field spaces) s at next
  unfolding target_field name_fields
  target_name e q = (
    to_name q.0.0 q.0.1,
    got_then (field 0 1 s at) _ p ∙ simp (ne_eqb form 0 e) (mapped_got (λ w. to_name w.0 w.1) (space_field spaces ⊗ path_field) s middle q.1),
  )

pub binding_passes : (spaces : ℕ) (s : List ℕ) (space base at₁ at₂ next : ℕ) → space_field spaces s 0 ≡ got (record { 0 = space }) at₁ → field 1 most_base s at₁ ≡ got base at₂
    → Passes (target_field spaces) s at₂ next → PassesBinding spaces s (space * 65536 + base) next
unfolding binding_record
binding_passes spaces s space base at₁ at₂ next e p q = (
  record { space = record { 0 = space }; base = base; target = q.0 },
  got_then (space_field spaces s 0) _ e ∙ got_then (field 1 most_base s at₁) _ p ∙ got_then (target_field spaces s at₂) _ q.1,
  refl,
)

-- ---- whole records, from their parts
module _ (spaces : ℕ) (s : List ℕ) (at₁ at₂ at₃ : ℕ) (first : Passes (space_field spaces) s 0 at₁) where
  pub access_passes : (next : ℕ) → Passes use_fields s at₁ at₂ → Passes path_field s at₂ at₃ → Passes depth_field s at₃ next → Passes (access_record spaces) s 0 next
  unfolding access_record
  access_passes next a b c =
      passes_mapped _ (space_field spaces ⊗ use_fields ⊗ path_field ⊗ depth_field) s 0 next
      (passes_both (space_field spaces) (use_fields ⊗ path_field ⊗ depth_field) s 0 at₁ next first
      (passes_both use_fields (path_field ⊗ depth_field) s at₁ at₂ next a (passes_both path_field depth_field s at₂ at₃ next b c)))

  pub delegation_passes : (at₄ next : ℕ) → Passes path_field s at₁ at₂ → Passes use_fields s at₂ at₃ → Passes path_field s at₃ at₄ → Passes depth_field s at₄ next → Passes (delegation_record spaces) s 0 next
  unfolding delegation_record
  delegation_passes at₄ next a b c d =
      passes_mapped _ (space_field spaces ⊗ path_field ⊗ use_fields ⊗ path_field ⊗ depth_field) s 0 next
      (passes_both (space_field spaces) (path_field ⊗ use_fields ⊗ path_field ⊗ depth_field) s 0 at₁ next first
      (passes_both path_field (use_fields ⊗ path_field ⊗ depth_field) s at₁ at₂ next a
      (passes_both use_fields (path_field ⊗ depth_field) s at₂ at₃ next b (passes_both path_field depth_field s at₃ at₄ next c d))))

-- ---- records that pass a test
-- A key, an object, a right, a key and a depth.
pub owner_sifts : (f : Key → ℕ → ℕ → Bool) (s : List ℕ) (at who what how at₁ at₂ at₃ middle next : ℕ) → field 1 most_key s at ≡ got who at₁ → field 0 most_object s at₁ ≡ got what at₂
    → field 1 most_right s at₂ ≡ got how at₃ → Passes key_field s at₃ middle → Passes depth_field s middle next → (passes : Bool) → passes ≡ f (record { 0 = who }) what how
    → Sifts (key_field ⊗ use_fields ⊗ key_field ⊗ depth_field) (λ w. f w.0 w.1.0.0 w.1.0.1) s at next passes
owner_sifts f s at who what how at₁ at₂ at₃ middle next a b c k d passes e = (
  (record { 0 = who }, ((what, how), (k.0, d.0))),
  both_got key_field (use_fields ⊗ key_field ⊗ depth_field) s at (key_seen s at who at₁ a)
      (both_got use_fields (key_field ⊗ depth_field) s at₁ (use_seen s at₁ what how at₂ at₃ b c) (both_got key_field depth_field s at₃ k.1 d.1)),
  e,
)

pub access_sifts : (f : Key → ℕ → ℕ → Bool) (s : List ℕ) (at next : ℕ) (passes : Bool) → Sifts (key_field ⊗ use_fields ⊗ key_field ⊗ depth_field) (λ w. f w.0 w.1.0.0 w.1.0.1) s at next passes
    → Sifts key_access_record (λ x. f x.owner x.object x.right) s at next passes
unfolding key_access_record
access_sifts f s at next passes p = (_, mapped_got _ (key_field ⊗ use_fields ⊗ key_field ⊗ depth_field) s at p.1, p.2)

pub delegation_sifts : (f : Key → ℕ → ℕ → Bool) (s : List ℕ) (at middle next : ℕ) (passes : Bool) → Passes key_field s at middle
    → Sifts (key_field ⊗ use_fields ⊗ key_field ⊗ depth_field) (λ w. f w.0 w.1.0.0 w.1.0.1) s middle next passes → Sifts key_delegation_record (λ x. f x.owner x.object x.right) s at next passes
unfolding key_delegation_record
delegation_sifts f s at middle next passes k p = (
  _,
  mapped_got _ (key_field ⊗ key_field ⊗ use_fields ⊗ key_field ⊗ depth_field) s at (both_got key_field (key_field ⊗ use_fields ⊗ key_field ⊗ depth_field) s at k.1 p.1),
  p.2,
)
