-- What each way through the readers of fields finds is what the fields' definitions say.
use mathlib.Core.Path.{◌≡◌, refl, sym, ◌∙◌, ap}
use mathlib.Core.Logic.{◌↔◌}
use mathlib.Core.List.{List}
use mathlib.Core.Bool.{Bool, true, false, ◌&&◌, false≢true}
use Prim.Native.Nat.{ℕ, ◌+◌, ◌-◌, ◌≤◌, ◌<◌}
use native.Mathlib.Omega.{arith}
use lib.Dec.{leb}
use lib.ListN.{length, take, drop, length-drop, drop_of_length-le}
use borrow.Author.Tests.{le-leb, lt-leb, leb-true, lt-ltb, le-ltb}
use Rattle.std.specs.Prelude.{Option, Some, None, Ok, Err}
use Rattle.rules.specs.Depths.{top, made}
use Rattle.rules.specs.declared.Depth.{Depth}
use Rattle.wire.specs.Number.{Number, Value, Cut, Wrong, number_at, number_read, groups_at}
use Rattle.wire.specs.declared.NumberFault.{NumberFault}
use Rattle.wire.specs.declared.NumberFault.TheVariants as fault
use Rattle.wire.proofs.NumberLaws.{number_there}
use Rattle.wire.proofs.PartsLaws.{rest_of}
use Rattle.records.specs.Parsed.{got, bad, fault_at, ◌⟫◌, mapped}
use Rattle.records.specs.Kinds.{kind_of}
use Rattle.records.specs.Fields.{found_at, any_number, between, field, space_field, depth_field, use_value}
use Rattle.records.specs.declared.faults.Kind.TheVariants as kind
use Rattle.records.specs.declared.fields.Use.{Use}
use Rattle.records.proofs.FormatLaws.{checked_got}

pub both_true : (a b : Bool) → (a && b ≡ true) ↔ ((a ≡ true) × (b ≡ true))
both_true true b = (λ e. (refl, e), λ h. h.1)
both_true false b = (λ e. absurd (false≢true e), λ h. absurd (false≢true h.0))

-- A field that was found is in its range.
pub field_within : (s : List ℕ) (at low high v next : ℕ) → field low high s at ≡ got v next → (low ≤ v) × (v ≤ high)
unfolding field
field_within s at low high v next e =
    let w = checked_got kind.Range (between low high) any_number v s at next e in
    let p = (both_true (leb low v) (leb v high)).0 w.1 in
    (leb-true low v p.0, leb-true v high p.1)

-- ---- a number
module _ (s : List ℕ) (at : ℕ) where
  pub number_none : length s ≤ at → any_number s at ≡ bad (fault_at kind.Cut at)
  unfolding any_number found_at groups_at
  number_none h = rw (drop_of_length-le s h)

  -- The bytes that code hands on, to the last, are those from the place on.
  module _ (m : Number) (is : m ≡ number_at (take (length s - at) (drop at s))) where
    there : number_at (drop at s) ≡ m
    there = sym (is ∙ ap number_at (rest_of s at))

    value_of : (r : Number) (v n : ℕ) → Ok (v, n) ≡ number_read r → r ≡ Value v n
    value_of (Value w k) v n e = let q : ◌≡◌ {A = ℕ × ℕ} (v, n) (w, k) = cc in ap (λ p. Value p.0 p.1) (sym q)
    value_of Cut v n e = let z : ◌≡◌ {A = ℕ} 0 1 = cc in absurd (omega arith)
    value_of Wrong v n e = let z : ◌≡◌ {A = ℕ} 0 1 = cc in absurd (omega arith)

    pub number_value : (v n : ℕ) → Ok (v, n) ≡ number_read m → any_number s at ≡ got v (at + n)
    unfolding any_number found_at
    number_value v n e = rw (there, value_of m v n e)

    pub number_fits : (v n : ℕ) → Ok (v, n) ≡ number_read m → at < length s → at + n ≤ length s
    number_fits v n e h = omega (arith, number_there v n (drop at s) (there ∙ value_of m v n e), length-drop at s)

    fails : (r : Number) (e : NumberFault) → Err e ≡ number_read r → found_at at r ≡ bad (fault_at (kind_of e) at)
    unfolding found_at
    fails (Value v n) e h = let z : ◌≡◌ {A = ℕ} 0 1 = cc in absurd (omega arith)
    fails Cut e h = let q : e ≡ fault.Cut = cc in rw q
    fails Wrong e h = let q : e ≡ fault.Wrong = cc in rw q

    pub number_fails : (e : NumberFault) → Err e ≡ number_read m → any_number s at ≡ bad (fault_at (kind_of e) at)
    unfolding any_number
    number_fails e h = rw there (fails m e h)

  -- ---- a number in its range
  module _ (v n : ℕ) (is : any_number s at ≡ got v n) where
    pub field_low : (low high : ℕ) → v < low → field low high s at ≡ bad (fault_at kind.Range at)
    unfolding field ◌⟫◌
    field_low low high l = rw (is, lt-leb low v l)

    pub field_high : (low high : ℕ) → low ≤ v → high < v → field low high s at ≡ bad (fault_at kind.Range at)
    unfolding field ◌⟫◌
    field_high low high l u = rw (is, le-leb low v l, lt-leb v high u)

    pub field_value : (low high : ℕ) → low ≤ v → v ≤ high → field low high s at ≡ got v n
    unfolding field ◌⟫◌
    field_value low high l u = rw (is, le-leb low v l, le-leb v high u)

    pub space_value : (spaces : ℕ) → v < spaces → space_field spaces s at ≡ got (record { 0 = v }) n
    unfolding space_field mapped ◌⟫◌
    space_value spaces l = rw (is, lt-ltb v spaces l)

    pub space_high : (spaces : ℕ) → spaces ≤ v → space_field spaces s at ≡ bad (fault_at kind.Range at)
    unfolding space_field mapped ◌⟫◌
    space_high spaces l = rw (is, le-ltb v spaces l)

    -- Whether the number makes a depth.
    pub depth_found : (d : Depth) → Some d ≡ made v → (depth_field s at ≡ got v n) × (d ≡ record { 0 = v })
    unfolding depth_field ◌⟫◌
    depth_found d h = go (leb v top) refl
      where
        go : (t : Bool) → leb v top ≡ t → (depth_field s at ≡ got v n) × (d ≡ record { 0 = v })
        go true q = let u : Some d ≡ Some (record { 0 = v }) = rw q at h in (rw (is, q), cc u)
        go false q = let u : Some d ≡ None = rw q at h in let z : ◌≡◌ {A = ℕ} 0 1 = cc u in absurd (omega arith)

    pub depth_high : None ≡ made v → depth_field s at ≡ bad (fault_at kind.Range at)
    unfolding depth_field ◌⟫◌
    depth_high h = go (leb v top) refl
      where
        go : (t : Bool) → leb v top ≡ t → depth_field s at ≡ bad (fault_at kind.Range at)
        go true q = let u : ◌≡◌ {A = Option Depth} None (Some (record { 0 = v })) = rw q at h in let z : ◌≡◌ {A = ℕ} 0 1 = cc u in absurd (omega arith)
        go false q = rw (is, q)

-- The depth that was read, as its number.
pub depth_number : (d : Depth) (x : ℕ) → d ≡ record { 0 = x } → x ≡ d.0
depth_number d x e = sym (ap (λ (y : Depth). y.0) e)

-- The object and the right that were read, as their numbers.
pub use_numbers : (u : Use) (x : ℕ × ℕ) → u ≡ use_value x → x ≡ (u.object, u.right)
use_numbers u x e = sym (ap (λ (y : Use). (y.object, y.right)) e)
