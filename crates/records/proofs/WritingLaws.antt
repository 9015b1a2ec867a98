-- Bytes written one behind the other, from the start of a buffer on.
use mathlib.Core.Path.{◌≡◌, sym, ◌∙◌, ap}
use mathlib.Core.List.{List, ◌++◌, append_assoc}
use Prim.Native.Nat.{ℕ, ◌+◌, ◌-◌, ◌≤◌}
use native.Mathlib.Omega.{arith}
use lib.ListN.{length, take, drop, length-append, length-drop}
use borrow.Rule.Slice.PartMut.{put_mid}
use Rattle.wire.specs.Placed.{placed}
use Rattle.wire.proofs.PlacedLaws.{placed_length, placed_next, placed_rest}
use Rattle.wire.proofs.PartsLaws.{rest_of}

-- With the bytes `x` written, the next place is `end` and the buffer holds `out`.
abbrev pub Wrote : List ℕ → List ℕ → ℕ → List ℕ → Type 0
Wrote s x end out = (end ≡ length x) × (out ≡ placed s 0 x)

-- There is room for `y` behind them.
pub wrote_room : (s x y out : List ℕ) (end : ℕ) → Wrote s x end out → length x + length y ≤ length s → end + length y ≤ length out
wrote_room s x y out end w room = omega (arith, w.0, room, ap length w.1, placed_length s x 0 (omega arith))

-- And `y` behind them.
pub wrote_then : (s x y out out' : List ℕ) (end end' : ℕ) → Wrote s x end out → length x + length y ≤ length s → (end' ≡ end + length y) × (out' ≡ placed out end y) → Wrote s (x ++ y) end' out'
wrote_then s x y out out' end end' w room p =
    (omega (arith, w.0, p.0, length-append x y), placed_next s x y out out' 0 end w.1 (omega (arith, w.0)) (omega (arith, w.0, room)) p.1)

-- The same bytes, grouped in another way.
pub wrote_as : (s x y out : List ℕ) (end : ℕ) → x ≡ y → Wrote s x end out → Wrote s y end out
wrote_as s x y out end e w = (w.0 ∙ ap length e, w.1 ∙ ap (λ (l : List ℕ). placed s 0 l) e)

-- ---- and the rest into the rest of the buffer, which begins where the first bytes end
module _ (s a b : List ℕ) (room : length (a ++ b) ≤ length s) where
  pub first_room : length a ≤ length s
  first_room = omega (arith, room, length-append a b)

  module _ (n : ℕ) (o : List ℕ) (w : Wrote s a n o) where
    kept : length o ≡ length s
    kept = ap length w.1 ∙ placed_length s a 0 (omega (arith, first_room))

    pub rest_begins : n ≤ length o
    rest_begins = omega (arith, w.0, kept, first_room)

    pub rest_room : length b ≤ length (take (length o - n) (drop n o))
    rest_room = rw (rest_of o n, length-drop) (omega (arith, w.0, kept, room, length-append a b))

    pub rest_written : (m : ℕ) (last : List ℕ) → (m ≡ length b) × (last ≡ placed (take (length o - n) (drop n o)) 0 b) → Wrote s (a ++ b) (n + m) (put_mid n (length o - n) o last)
    rest_written m last p =
        wrote_then s a b o (put_mid n (length o - n) o last) n (n + m) w (omega (arith, room, length-append a b)) (ap (λ (x : ℕ). n + x) p.0, placed_rest o last b n p.1)

    pub rest_ends : (m : ℕ) → m ≡ length b → n + m ≤ length s
    rest_ends m e = omega (arith, e, w.0, room, length-append a b)

-- ---- five pieces written one behind the other, which are `t` together
module _ (s a b c d e t : List ℕ) (same : t ≡ a ++ ((b ++ c) ++ (d ++ e))) (room : length t ≤ length s) where
  regrouped : (((a ++ b) ++ c) ++ d) ++ e ≡ a ++ ((b ++ c) ++ (d ++ e))
  regrouped = simp append_assoc

  five_lengths : length a + length b + length c + length d + length e ≤ length s
  five_lengths = omega (arith, room, ap length same, length-append a ((b ++ c) ++ (d ++ e)), length-append (b ++ c) (d ++ e), length-append b c, length-append d e)

  pub five_room₁ : length a ≤ length s
  five_room₁ = omega (arith, five_lengths)

  module _ (n₁ : ℕ) (o₁ : List ℕ) (w₁ : Wrote s a n₁ o₁) where
    pub five_room₂ : n₁ + length b ≤ length o₁
    five_room₂ = wrote_room s a b o₁ n₁ w₁ (omega (arith, five_lengths))

    module _ (n₂ : ℕ) (o₂ : List ℕ) (p₂ : (n₂ ≡ n₁ + length b) × (o₂ ≡ placed o₁ n₁ b)) where
      w₂ : Wrote s (a ++ b) n₂ o₂
      w₂ = wrote_then s a b o₁ o₂ n₁ n₂ w₁ (omega (arith, five_lengths)) p₂

      pub five_room₃ : n₂ + length c ≤ length o₂
      five_room₃ = wrote_room s (a ++ b) c o₂ n₂ w₂ (omega (arith, five_lengths, length-append a b))

      module _ (n₃ : ℕ) (o₃ : List ℕ) (p₃ : (n₃ ≡ n₂ + length c) × (o₃ ≡ placed o₂ n₂ c)) where
        w₃ : Wrote s ((a ++ b) ++ c) n₃ o₃
        w₃ = wrote_then s (a ++ b) c o₂ o₃ n₂ n₃ w₂ (omega (arith, five_lengths, length-append a b)) p₃

        pub five_room₄ : n₃ + length d ≤ length o₃
        five_room₄ = wrote_room s ((a ++ b) ++ c) d o₃ n₃ w₃ (omega (arith, five_lengths, length-append a b, length-append (a ++ b) c))

        module _ (n₄ : ℕ) (o₄ : List ℕ) (p₄ : (n₄ ≡ n₃ + length d) × (o₄ ≡ placed o₃ n₃ d)) where
          w₄ : Wrote s (((a ++ b) ++ c) ++ d) n₄ o₄
          w₄ = wrote_then s ((a ++ b) ++ c) d o₃ o₄ n₃ n₄ w₃ (omega (arith, five_lengths, length-append a b, length-append (a ++ b) c)) p₄

          fourth : length (((a ++ b) ++ c) ++ d) + length e ≤ length s
          fourth = omega (arith, five_lengths, length-append a b, length-append (a ++ b) c, length-append ((a ++ b) ++ c) d)

          pub five_room₅ : n₄ + length e ≤ length o₄
          five_room₅ = wrote_room s (((a ++ b) ++ c) ++ d) e o₄ n₄ w₄ fourth

          pub five_written : (n₅ : ℕ) (o₅ : List ℕ) → (n₅ ≡ n₄ + length e) × (o₅ ≡ placed o₄ n₄ e) → Wrote s t n₅ o₅
          five_written n₅ o₅ p₅ =
              wrote_as s ((((a ++ b) ++ c) ++ d) ++ e) t o₅ n₅ (regrouped ∙ sym same)
              (wrote_then s (((a ++ b) ++ c) ++ d) e o₄ o₅ n₄ n₅ w₄ fourth p₅)
