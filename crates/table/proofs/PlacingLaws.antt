-- Records of a section in a loop, of which the places are kept.
use mathlib.Core.Path.{◌≡◌, refl, sym, ◌∙◌, subst}
use mathlib.Core.List.{List, []}
use Prim.Native.Nat.{ℕ, ◌+◌, ◌<◌, ◌≤◌}
use native.Mathlib.Omega.{arith}
use lib.ListN.{length, set, length-set}
use Rattle.std.specs.Prelude.{Ok, Err}
use Rattle.rules.specs.Lists.{◌▷◌}
use Rattle.records.specs.Parsed.{got, bad, Reader, moved_fault, after}
use Rattle.records.specs.Many.{many}
use Rattle.records.specs.declared.faults.Fault.{Fault}
use Rattle.records.proofs.FormatLaws.{Walks}
use Rattle.table.specs.Kept.{Standing}
use Rattle.table.proofs.AnswersLaws.{after_got, after_bad, as_after, as_fault}
use Rattle.table.proofs.LoadingLaws.{Besides, rest, there_got, there_bad, Reading, reading_start, reading_next, reading_stop, reading_end}
use Rattle.table.proofs.KeptLaws.{standing_none, standing_more}

-- ---- one record, as code finds it from the rest of the bytes
module _ {A : Type 0} (P : Reader A) (walks : Walks P) (s : List ℕ) (at : ℕ) (h : at ≤ length s) where
  -- A record that the rest begins with stands at the place.
  pub goes_after : (x : A) (n : ℕ) → P (rest s at) 0 ≡ got x n → (Ok (at + n) ≡ after (P s at)) × (at + n ≤ length s)
  goes_after x n e = let w = there_got (λ e. P) (λ e. walks) s [] at h x n e in (as_after w.0, w.1)

  -- A fault of the rest is one of the whole, seen from its beginning; and its place is within the bytes.
  pub stops_after : (e : Fault) → P (rest s at) 0 ≡ bad e → (Err (moved_fault at e) ≡ after (P s at)) × (at + e.place.offset ≤ length s)
  stops_after e q = let w = there_bad (λ e. P) (λ e. walks) s [] at h e q in (as_fault w.0, w.1)

-- ---- the loop
module _ {A : Type 0} (P : Reader A) (walks : Walks P) (s : List ℕ) where
  pub record Placing (count from room : ℕ) (places : List ℕ) (at i : ℕ) : Type 0 where
    pub size : length places ≡ room
    pub earlier : List A
    pub reading : Reading (λ e. P) (λ e. walks) s count from at i earlier
    pub standing : Standing P s places earlier

  pub placing_start : (count from : ℕ) (places : List ℕ) → from ≤ length s → Placing count from (length places) places from 0
  placing_start count from places h = record {
    size = refl;
    earlier = [];
    reading = reading_start (λ e. P) (λ e. walks) s count from h;
    standing = standing_none P s places;
  }

  module _ (count from room : ℕ) (places : List ℕ) (at i : ℕ) (r : Placing count from room places at i) where
    pub placing_end : count ≤ i → Besides after (λ (l : List A). Standing P s places l) (Ok at) (many (λ e. P) count [] s from)
    placing_end h = reading_end (λ e. P) (λ e. walks) s count from at i r.earlier r.reading (λ (l : List A). Standing P s places l) r.standing h

    module _ (h : i < count) where
      -- A fault ends the loop.
      pub placing_bad : (e : Fault) → Err e ≡ after (P s at) → Besides after (λ (l : List A). Standing P s places l) (Err e) (many (λ e. P) count [] s from)
      placing_bad e q = reading_stop (λ e. P) (λ e. walks) s count from at i r.earlier r.reading h (λ (l : List A). Standing P s places l) e (after_bad (P s at) q)

      -- With one record more, and its place.
      pub placing_on : (next : ℕ) → Ok next ≡ after (P s at) → count ≤ room → Placing count from room (set places i at) next (i + 1)
      placing_on next q few = more (after_got (P s at) q)
        where
          more : (x : A) × (P s at ≡ got x next) → Placing count from room (set places i at) next (i + 1)
          more (x, e) =
              let k : i ≡ length r.earlier = sym r.reading.going.read in
              record {
                size = length-set places i at ∙ r.size;
                earlier = r.earlier ▷ x;
                reading = reading_next (λ e. P) (λ e. walks) s count from at i r.earlier r.reading h x next e;
                standing = subst (λ (j : ℕ). Standing P s (set places j at) (r.earlier ▷ x)) (sym k)
                    (standing_more P s places r.earlier x at next (omega (arith, k, r.size)) r.reading.within e r.standing);
              }
