-- What is done with one record, by what it becomes.
use mathlib.Core.Path.{◌≡◌, sym, subst, subst₂}
use mathlib.Core.List.{List}
use Rattle.std.specs.Prelude.{Option, Some, None}
use Prim.Native.Nat.{ℕ, ◌+◌, ◌-◌, ◌≤◌}
use native.Mathlib.Omega.{arith}
use lib.ListN.{length, take, drop, length-drop}
use borrow.Rule.Slice.PartMut.{put_mid}
use Rattle.wire.specs.Placed.{placed}
use Rattle.wire.proofs.PlacedLaws.{placed_rest}
use Rattle.wire.proofs.PartsLaws.{rest_of}
use Rattle.translation.specs.Becoming.{Keyed, becomes, nothing, Puts, put, left, RoomFor}
use Rattle.translation.specs.declared.sections.Written.{Written}

module _ {V B : Type 0} (P : B → Type 0) (told : V → B) (o : Option V) (keyed : Keyed P told o) where
  told_one : (v : V) → o ≡ Some v → P (told v)
  told_one v e = go keyed e
    where
      go : {o : Option V} → Keyed P told o → o ≡ Some v → P (told v)
      go (becomes {v = w} p) e = let q : w ≡ v = cc e in subst (λ (u : V). P (told u)) q p
      go (nothing f) e = let z : ◌≡◌ {A = ℕ} 0 1 = cc in absurd (omega arith)

  told_none : o ≡ None → (y : B) → P y → ⊥
  told_none e = go keyed e
    where
      go : {o : Option V} → Keyed P told o → o ≡ None → (y : B) → P y → ⊥
      go (becomes p) e = let z : ◌≡◌ {A = ℕ} 0 1 = cc in absurd (omega arith)
      go (nothing f) e = f

  -- ---- writing
  module _ (E : B → List ℕ) (out : List ℕ) where
    pub leaves_all : (written : Written) → o ≡ None → Puts P E out written out written
    leaves_all written e = left (told_none e)

    module _ (at : ℕ) (room : RoomFor P E out at) (v : V) (e : o ≡ Some v) where
      pub has_room : length (E (told v)) ≤ length (take (length out - at) (drop at out))
      has_room = rw (rest_of out at, length-drop) (omega (arith, room.room (told v) (told_one v e)))

      pub ends_within : (m : ℕ) → m ≡ length (E (told v)) → at + m ≤ length out
      ends_within m q = omega (arith, q, room.room (told v) (told_one v e))

      pub puts_one : (n m : ℕ) (last : List ℕ) → (m ≡ length (E (told v))) × (last ≡ placed (take (length out - at) (drop at out)) 0 (E (told v)))
          → Puts P E out (record { count = n; end = at }) (put_mid at (length out - at) out last) (record { count = n + 1; end = at + m })
      puts_one n m last w =
          subst₂ (λ (k : List ℕ) (j : ℕ). Puts P E out (record { count = n; end = at }) k (record { count = n + 1; end = at + j })) (sym (placed_rest out last (E (told v)) at w.1)) (sym w.0)
          (put (told_one v e))
