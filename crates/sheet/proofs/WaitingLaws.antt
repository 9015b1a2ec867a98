-- What the bindings wait for, while the sheet is filled.
use mathlib.Core.Path.{◌≡◌, refl, sym, ◌∙◌, ap, subst}
use mathlib.Core.Bool.{Bool, true, false, not}
use mathlib.Core.List.{List}
use Prim.Native.Nat.{ℕ, ◌+◌, ◌-◌, ◌<◌, ◌≤◌}
use native.Mathlib.Omega.{arith}
use native.Mathlib.Decide.{ℕ_discrete}
use lib.ListN.{length, set, replicate, length-set, length-replicate, get_or-replicate}
use lib.Seq.{get_or-set_same, get_or-set_other}
use Rattle.std.proofs.Common.{eqb, eq-eqb}
use Rattle.std.proofs.lemmas.Bool.{ne_eqb}
use Rattle.rules.specs.Lists.{At}
use Rattle.rules.specs.Tables.{Binding, NameTable}
use Rattle.rules.specs.Sheets.{entry}
use Rattle.table.proofs.FindingLaws.{at_below}
use Rattle.sheet.specs.Walks.{Grown, Stopped}
use Rattle.sheet.specs.Known.{Known}
use Rattle.sheet.specs.Listings.{Opening, Waiting, Rests, filled, waiting, due, Quiet, Turn, same}
use Rattle.sheet.specs.declared.following.Walked.{Walked}
use Rattle.sheet.specs.declared.following.Walked.TheVariants as walked
use Rattle.sheet.proofs.WalksLaws.{grown_none, stopped_on, walks_waits, walks_nothing}
use Rattle.sheet.proofs.MeaningLaws.{index_bindings}

-- ---- the test
module _ (sheet waits : List ℕ) (i : ℕ) where
  pub rests_filled : (entry sheet i ≡ 0 → ⊥) → Rests sheet waits i (not (eqb (entry sheet i) 0))
  rests_filled n = subst (Rests sheet waits i) (sym (ap not (ne_eqb (entry sheet i) 0 n))) (filled n)

  pub rests_due : entry sheet i ≡ 0 → entry waits i ≡ 0 → Rests sheet waits i (not (eqb (entry waits i) 0))
  rests_due z e = subst (Rests sheet waits i) (sym (ap not (eq-eqb (entry waits i) 0 e))) (due z)

  pub rests_waiting : entry sheet i ≡ 0 → (entry waits i ≡ 0 → ⊥) → Rests sheet waits i (eqb (entry sheet (entry waits i - 1)) 0)
  rests_waiting z n = go (ℕ_discrete (entry sheet (entry waits i - 1)) 0)
    where
      go : Dec (entry sheet (entry waits i - 1) ≡ 0) → Rests sheet waits i (eqb (entry sheet (entry waits i - 1)) 0)
      go (yes e) = subst (Rests sheet waits i) (sym (eq-eqb (entry sheet (entry waits i - 1)) 0 e)) (waiting (entry waits i - 1) (omega (arith, n)) e)
      go (no d) = subst (Rests sheet waits i) (sym (ne_eqb (entry sheet (entry waits i - 1)) 0 d)) (due z)

  pub rests_not : (r : Bool) → Rests sheet waits i r → r ≡ false → entry sheet i ≡ 0
  rests_not _ (filled n) e = let z : ◌≡◌ {A = ℕ} 0 1 = cc in absurd (omega arith)
  rests_not _ (waiting j w z) e = let z : ◌≡◌ {A = ℕ} 0 1 = cc in absurd (omega arith)
  rests_not _ (due z) e = z

  pub rests_quiet : (t : NameTable) → Waiting t sheet waits → (r : Bool) → Rests sheet waits i r → r ≡ true → Quiet t sheet i
  rests_quiet t w _ (filled n) e = record { quiet = λ x k a z v. n z }
  rests_quiet t w _ (waiting j u z) e = record { quiet = λ x k a y v. (w.stops i j x a u).stopped sheet (grown_none sheet) z k v }
  rests_quiet t w _ (due z) e = let z : ◌≡◌ {A = ℕ} 0 1 = cc in absurd (omega arith)

-- ---- the sheet grows, and the row is cleared
pub waiting_grown : (t : NameTable) (sheet next waits : List ℕ) → Grown sheet next → Waiting t sheet waits → Waiting t next waits
waiting_grown t sheet next waits grown w = record { room = w.room; there = w.there; stops = λ i j x a e. stopped_on t sheet next x.target j grown (w.stops i j x a e) }

pub waiting_start : (t : NameTable) (sheet waits before : List ℕ) → waits ≡ replicate (length before) 0 → length t.bindings ≤ length before → Waiting t sheet waits
waiting_start t sheet waits before e h = record {
  room = omega (arith, ap length e, length-replicate {A = ℕ} (length before) 0);
  there = λ i b. omega (arith, none i b);
  stops = λ i j x a u. absurd (omega (arith, none i a.there, u));
}
  where
    none : (i : ℕ) → i < length t.bindings → entry waits i ≡ 0
    none i b = ap (λ (l : List ℕ). entry l i) e ∙ get_or-replicate {A = ℕ} (length before) i 0 0 (omega (arith, h, b))

-- ---- a binding that stops
-- The target of binding number `i` stops at entry `j`.
pub record StopsAt (t : NameTable) (sheet : List ℕ) (i j : ℕ) : Type 0 where
  pub there : j < length t.bindings
  pub empty : entry sheet j ≡ 0
  pub stops : (x : Binding) → At t.bindings i x → Stopped t sheet x.target j

module _ (t : NameTable) (sheet : List ℕ) (i : ℕ) (h : i < length t.bindings) where
  module _ (r : Walked) (found : Opening t sheet i r) where
    pub stops_at : (j : ℕ) → r ≡ walked.Waits j → StopsAt t sheet i j
    stops_at j e =
        let x = at_below t.bindings i h in
        let w = walks_waits t sheet x.0.target r j (found.walks x.0 x.1) e in
        record { there = w.0; empty = w.1; stops = λ y a. (walks_waits t sheet y.target r j (found.walks y a) e).2 }

    -- It leads nowhere for good, and so waits for itself.
    pub stops_ever : r ≡ walked.Nothing → entry sheet i ≡ 0 → StopsAt t sheet i i
    stops_ever e z = record {
      there = h;
      empty = z;
      stops = λ y a. record { stopped = λ later grown u k v. (walks_nothing t sheet y.target r (found.walks y a) e).nowhere later grown k v };
    }

  module _ (j : ℕ) (s : StopsAt t sheet i j) where
    pub stops_turn : (n : ℕ) → Turn t i sheet sheet n n
    stops_turn n = same refl (record { quiet = λ x k a z v. (s.stops x a).stopped sheet (grown_none sheet) s.empty k v })

    pub stops_waiting : (waits : List ℕ) → Waiting t sheet waits → Waiting t sheet (set waits i (j + 1))
    stops_waiting waits w = record {
      room = rw (length-set waits i (j + 1)) w.room;
      there = λ m b. below m b (ℕ_discrete m i);
      stops = λ m n x a e. on m n x a e (ℕ_discrete m i);
    }
      where
        here : entry (set waits i (j + 1)) i ≡ j + 1
        here = get_or-set_same waits i (j + 1) 0 (omega (arith, h, w.room))

        below : (m : ℕ) → m < length t.bindings → Dec (m ≡ i) → entry (set waits i (j + 1)) m ≤ length t.bindings
        below m b (yes q) = let u : entry (set waits i (j + 1)) m ≡ j + 1 = ap (entry (set waits i (j + 1))) q ∙ here in omega (arith, u, s.there)
        below m b (no d) = omega (arith, get_or-set_other waits i m (j + 1) 0 d, w.there m b)

        on : (m n : ℕ) (x : Binding) → At t.bindings m x → entry (set waits i (j + 1)) m ≡ n + 1 → Dec (m ≡ i) → Stopped t sheet x.target n
        on m n x a e (yes q) =
            let u : entry (set waits i (j + 1)) m ≡ j + 1 = ap (entry (set waits i (j + 1))) q ∙ here in
            let v : j ≡ n = omega (arith, u, e) in
            subst (λ (l : ℕ). Stopped t sheet x.target l) v (s.stops x (subst (λ (l : ℕ). At t.bindings l x) q a))
        on m n x a e (no d) = w.stops m n x a (sym (get_or-set_other waits i m (j + 1) 0 d) ∙ e)

-- ---- where code reads and writes
module _ (t : NameTable) (s keys names places : List ℕ) (known : Known t s keys names places) where
  pub stops_fits : (sheet : List ℕ) (i j : ℕ) → StopsAt t sheet i j → j < 65536
  stops_fits sheet i j w = omega (arith, w.there, known.few_bindings, index_bindings t keys names known.index)

  pub cleared_waiting : (sheet waits before : List ℕ) → waits ≡ replicate (length before) 0 → length names ≤ length before → Waiting t sheet waits
  cleared_waiting sheet waits before e h = waiting_start t sheet waits before e (omega (arith, h, index_bindings t keys names known.index))
