-- Filling a sheet, entry after entry and round after round.
use mathlib.Core.Path.{◌≡◌, refl, sym, ◌∙◌, ap, subst}
use mathlib.Core.List.{List, [], ◌∷◌, ◌++◌}
use Prim.Native.Nat.{ℕ, zero, suc, ◌+◌, ◌<◌, ◌≤◌, suc-le-suc}
use native.Mathlib.Nat.{zero-lt-suc}
use native.Mathlib.Omega.{arith}
use native.Mathlib.Numerals.{add-one}
use native.Mathlib.Decide.{ℕ_discrete}
use lib.ListN.{length, take, drop, set, replicate, length-set, length-replicate, get_or-replicate, get_or-append}
use lib.Seq.{take-suc-set, get_or-set_same, drop-append_seam}
use Rattle.rules.specs.Lists.{At, ◌▷◌}
use Rattle.rules.specs.Tables.{Binding, NameTable}
use Rattle.rules.specs.Ranges.{GoodNames}
use Rattle.rules.specs.Sheets.{entry}
use Rattle.rules.specs.Following.{InSheet, TargetLeads}
use Rattle.rules.specs.Filling.{Filling, AtRest}
use Rattle.rules.specs.Rounds.{empty}
use Rattle.rules.specs.declared.Key.{Key}
use Rattle.rules.proofs.ListsLaws.{in_last}
use Rattle.rules.proofs.FollowingLaws.{target_more}
use Rattle.rules.proofs.SheetsLaws.{filling_start, filling_step, rest_exact}
use Rattle.rules.proofs.RoundsLaws.{empty_set, none_empty}
use Rattle.table.proofs.FindingLaws.{at_below}
use Rattle.sheet.specs.Known.{Known}
use Rattle.sheet.specs.Listings.{Opening, Listing, Quiet, Turn, more, same, Round, Filled}
use Rattle.sheet.specs.declared.following.Walked.{Walked}
use Rattle.sheet.specs.declared.following.Walked.TheVariants as walked
use Rattle.sheet.proofs.WalksLaws.{walks_key}
use Rattle.sheet.proofs.MeaningLaws.{index_bindings}

module _ (t : NameTable) (sheet order : List ℕ) (listed : ℕ) (now : Listing t sheet order listed) where
  -- ---- one entry
  module _ (i : ℕ) (h : i < length t.bindings) where
    module _ (r : Walked) (found : Opening t sheet i r) where
      module _ (good : GoodNames t) (k : Key) (e : r ≡ walked.Key k) (z : entry sheet i ≡ 0) where
        leads : (x : Binding) → At t.bindings i x → TargetLeads t (InSheet t sheet) x.target k
        leads x a = walks_key t sheet x.target r k (found.walks x a) e

        next : Filling t (set sheet i k.0) (take listed order ▷ i)
        next =
            let x = at_below t.bindings i h in
            filling_step t good sheet (take listed order) now.filling i x.0 k x.1 (omega (arith, now.size)) z (leads x.0 x.1)

        -- There is room for one more, since its entry was 0.
        pub room_left : listed < length order
        room_left = fits (empty sheet) refl
          where
            fits : (n : ℕ) → empty sheet ≡ n → listed < length order
            fits zero e = absurd (none_empty sheet i (omega (arith, now.size)) e z)
            fits (suc n) e = omega (arith, now.counted, now.size, now.room)

        pub one_more : Listing t (set sheet i k.0) (set order listed i) (listed + 1)
        one_more =
            let p : 0 < k.0 = rw (get_or-set_same sheet i k.0 0 (omega (arith, now.size))) at (next.filled i (in_last (take listed order) i)) in
            record {
              size = length-set sheet i k.0 ∙ now.size;
              room = rw (length-set order listed i) now.room;
              counted = omega (arith, now.counted, empty_set sheet i k.0 (omega (arith, now.size)) z p, length-set sheet i k.0);
              filling = subst (λ (l : List ℕ). Filling t (set sheet i k.0) l) (sym (ap (λ (n : ℕ). take n (set order listed i)) (add-one listed) ∙ take-suc-set order listed i room_left)) next;
            }

-- ---- a round
module _ (t : NameTable) (listed : ℕ) where
  pub round_on : (before sheet order₀ order : List ℕ) (i n m : ℕ) → Round t listed before order₀ i n → Listing t sheet order m → Turn t i before sheet n m → Round t listed sheet order (i + 1) m
  round_on before sheet order₀ order i n _ r l more = record { listing = l; more = omega (arith, r.more); quiet = λ e j h. absurd (omega (arith, r.more, e)) }
  round_on before sheet order₀ order i n _ r l (same e q) = record { listing = l; more = r.more; quiet = λ z j h. still z j h (ℕ_discrete j i) }
    where
      still : n ≡ listed → (j : ℕ) → j < i + 1 → Dec (j ≡ i) → Quiet t sheet j
      still z j h (yes w) = subst (Quiet t sheet) (sym w) q
      still z j h (no w) = subst (λ (s : List ℕ). Quiet t s j) (sym e) (r.quiet z j (omega arith))

-- ---- at rest
module _ (t : NameTable) (sheet order : List ℕ) where
  pub quiet_rests : (listed n i : ℕ) → length t.bindings ≤ i → Round t listed sheet order i n → n ≡ listed → AtRest t sheet
  quiet_rests listed n i h r e = record { at_rest = λ j x k a z w. (r.quiet e j (omega (arith, a.there))).quiet x k a z w }

  pub full_rests : (n : ℕ) → Listing t sheet order n → length t.bindings ≤ n → AtRest t sheet
  full_rests n l h = record { at_rest = λ j x k a z w. none_empty sheet j (omega (arith, a.there, l.size)) (omega (arith, l.counted, l.size)) z }

-- ---- the beginning, and the whole
pub listing_start : (t : NameTable) (n : ℕ) (order : List ℕ) → n ≡ length t.bindings → n ≤ length order → Listing t (replicate n 0) order 0
listing_start t n order e h = record {
  size = length-replicate {A = ℕ} n 0 ∙ e;
  room = rw (← e) h;
  counted = omega (arith, all_empty n);
  filling = filling_start t (replicate n 0) (λ i b. get_or-replicate {A = ℕ} n i 0 0 (omega (arith, e, b)));
}
  where
    all_empty : (n : ℕ) → empty (replicate n 0) ≡ length (replicate {A = ℕ} n 0)
    all_empty zero = refl
    all_empty (suc n) = ap suc (all_empty n)

-- ---- where code reads and writes
module _ (t : NameTable) (s keys names places : List ℕ) (known : Known t s keys names places) where
  pub cleared_listing : (sheet before order : List ℕ) → sheet ≡ replicate (length before) 0 → length before ≡ length names → length names ≤ length order → Listing t sheet order 0
  cleared_listing sheet before order e q h =
      subst (λ (s : List ℕ). Listing t s order 0) (sym e) (listing_start t (length before) order (q ∙ sym (index_bindings t keys names known.index)) (omega (arith, q)))

  pub entry_below : (i : ℕ) → i < length names → i < length t.bindings
  entry_below i h = omega (arith, index_bindings t keys names known.index)

  module _ (sheet order : List ℕ) (n : ℕ) (l : Listing t sheet order n) where
    -- All are listed.
    pub full_ends : length names ≤ n → Listing t sheet order n × AtRest t sheet
    full_ends h = (l, full_rests t sheet order n l (omega (arith, index_bindings t keys names known.index)))

  module _ (listed : ℕ) (sheet order : List ℕ) (n : ℕ) (r : Round t listed sheet order (length names) n) where
    -- The round listed no more.
    pub quiet_ends : n ≡ listed → Listing t sheet order listed × AtRest t sheet
    quiet_ends e = (subst (Listing t sheet order) e r.listing, quiet_rests t sheet order listed n (length names) (omega (arith, index_bindings t keys names known.index)) r e)

-- ---- a sheet with entries past those of the bindings
module _ (t : NameTable) (good : GoodNames t) (part rest order : List ℕ) (n : ℕ) (l : Listing t part order n) (still : AtRest t part) where
  first_same : (i : ℕ) → i < length t.bindings → entry (part ++ rest) i ≡ entry part i
  first_same i h = get_or-append part rest 0 i (omega (arith, l.size))

  in_part : (i : ℕ) (k : Key) → InSheet t (part ++ rest) i k → InSheet t part i k
  in_part i k w = record { there = w.there; is = sym (first_same i w.there) ∙ w.is; some = w.some }

  below_part : (part : List ℕ) (i : ℕ) → 0 < entry part i → i < length part
  below_part [] i h = absurd (omega arith)
  below_part (x ∷ p) zero h = zero-lt-suc _
  below_part (x ∷ p) (suc i) h = suc-le-suc (below_part p i h)

  whole_filling : Filling t (part ++ rest) (take n order)
  whole_filling = let f = l.filling in record {
    ordered = f.ordered;
    none_twice = f.none_twice;
    filled = λ i m. let h = below_part part i (f.filled i m) in rw (first_same i (omega (arith, l.size))) (f.filled i m);
    listed = λ i h p. f.listed i h (rw (first_same i h) at p);
    sound = record { sound = λ i k w. f.sound.sound i k (in_part i k w) };
  }

  whole_rest : AtRest t (part ++ rest)
  whole_rest = record { at_rest = λ i x k a e w. still.at_rest i x k a (sym (first_same i a.there) ∙ e) (target_more t (InSheet t (part ++ rest)) (InSheet t part) in_part x.target k w) }

  pub whole_filled : (before : List ℕ) → rest ≡ drop (length t.bindings) before → Filled t before (part ++ rest) order n
  whole_filled before e = record {
    exact = rest_exact t good (part ++ rest) (take n order) whole_filling whole_rest;
    past = ap (λ (m : ℕ). drop m (part ++ rest)) (sym l.size) ∙ drop-append_seam part rest ∙ e;
    few = omega (arith, l.counted, l.size);
    filling = whole_filling;
    at_rest = whole_rest;
  }

pub past_bindings : (t : NameTable) (s keys names places : List ℕ) → Known t s keys names places → (before : List ℕ) → drop (length names) before ≡ drop (length t.bindings) before
past_bindings t s keys names places known before = ap (λ (n : ℕ). drop n before) (sym (index_bindings t keys names known.index))
