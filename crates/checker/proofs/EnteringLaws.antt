-- The listed bindings, entered one by one.
use mathlib.Core.Path.{◌≡◌, refl, sym, ◌∙◌, ap, subst}
use mathlib.Core.Bool.{Bool, true, false}
use mathlib.Core.Logic.{inl, inr}
use mathlib.Core.List.{List, [], ◌∷◌, ◌++◌, append_assoc, append-nil}
use Prim.Native.Nat.{ℕ, zero, suc, ◌+◌, ◌<◌, ◌≤◌}
use native.Mathlib.Nat.{not-suc-le-zero, le_of_suc-le-suc, zero-lt-suc}
use native.Mathlib.Numerals.{add-one}
use native.Mathlib.Omega.{arith}
use lib.ListN.{length, take, get_or, set, length-set}
use lib.Seq.{take-suc, take_all}
use Rattle.std.specs.Prelude.{Option, Some, None}
use Rattle.rules.specs.Choice.{pick}
use Rattle.rules.specs.Lists.{At, ◌▷◌, In, NoneTwice}
use Rattle.rules.specs.Tables.{Binding, NameTable}
use Rattle.rules.specs.Sheets.{entry}
use Rattle.rules.specs.Derivations.{MeansFrom, OrderedAfter, Ordered}
use Rattle.rules.specs.Filling.{Filling}
use Rattle.rules.specs.declared.Key.{Key}
use Rattle.rules.proofs.SheetsLaws.{filling_step, filling_leads}
use Rattle.records.specs.Parsed.{Parsed, got, bad, fault_at}
use Rattle.records.specs.Fields.{field}
use Rattle.records.specs.Rows.{is_among}
use Rattle.records.specs.DerivationBytes.{listed_number}
use Rattle.records.specs.declared.faults.Kind.TheVariants as kind
use Rattle.records.specs.declared.faults.Fault.{Fault}
use Rattle.records.proofs.ParsedLaws.{then_got, got_or_bad}
use Rattle.records.proofs.ManyLaws.{Left, left_on}
use Rattle.table.proofs.FindingLaws.{at_below}
use Rattle.sheet.specs.Known.{Known}
use Rattle.sheet.specs.Listings.{Leading}
use Rattle.sheet.proofs.FindsLaws.{finds_key, finds_none}
use Rattle.sheet.proofs.MeaningLaws.{index_bindings}
use Rattle.checker.specs.Walks.{Listed, all, unordered, EntersAll}

-- ---- lists
-- What an order says of its element number `i`.
pub ordered_at : (t : NameTable) (B L : List ℕ) (i : ℕ) → OrderedAfter t B L → i < length L → MeansFrom t (B ++ take i L) (get_or L i 0)
ordered_at t B [] i o h = absurd (not-suc-le-zero h)
ordered_at t B (x ∷ L) zero o h = subst (λ (l : List ℕ). MeansFrom t l x) (sym (append-nil B)) o.0
ordered_at t B (x ∷ L) (suc i) o h = subst (λ (l : List ℕ). MeansFrom t l (get_or L i 0)) (append_assoc B (x ∷ []) (take i L)) (ordered_at t (B ▷ x) L i o.1 (le_of_suc-le-suc h))

-- An element is not among those before it.
in_take : (L : List ℕ) (i y : ℕ) → In (take i L) y → In L y
in_take [] zero y h = h
in_take [] (suc i) y h = h
in_take (x ∷ L) zero y h = absurd h
in_take (x ∷ L) (suc i) y (inl e) = inl e
in_take (x ∷ L) (suc i) y (inr h) = inr (in_take L i y h)

in_at : (L : List ℕ) (i : ℕ) → i < length L → In L (get_or L i 0)
in_at [] i h = absurd (not-suc-le-zero h)
in_at (x ∷ L) zero h = inl refl
in_at (x ∷ L) (suc i) h = inr (in_at L i (le_of_suc-le-suc h))

pub not_before : (L : List ℕ) (i : ℕ) → NoneTwice L → i < length L → In (take i L) (get_or L i 0) → ⊥
not_before [] i n h m = not-suc-le-zero h
not_before (x ∷ L) zero n h m = m
not_before (x ∷ L) (suc i) n h (inl e) = n.0 (subst (In L) (sym e) (in_at L i (le_of_suc-le-suc h)))
not_before (x ∷ L) (suc i) n h (inr m) = not_before L i n.1 (le_of_suc-le-suc h) m

-- ---- the loop
module _ (t : NameTable) (s : List ℕ) (from count : ℕ) where
  pub record Entered (L : List ℕ) (end : ℕ) (sheet : List ℕ) (at i : ℕ) : Type 0 where
    pub left : Left listed_number s L end i at
    pub filling : Filling t sheet (take i L)

  pub record Entering (room : ℕ) (sheet : List ℕ) (at i : ℕ) : Type 0 where
    pub size : length sheet ≡ room
    pub most : i ≤ count
    pub entered : (L : List ℕ) (l : Listed s from count L) → Entered L l.end sheet at i

  module _ (room : ℕ) (sheet : List ℕ) (at i : ℕ) (e : Entering room sheet at i) where
    pub entering_end : count ≤ i → EntersAll t s from count sheet true
    entering_end h L l = all (subst (Filling t sheet) (take_all i L (omega (arith, l.size))) (e.entered L l).filling)

    module _ (h : i < count) where
      -- The next number, as it is read.
      next_number : (L : List ℕ) (l : Listed s from count L) → (mid : ℕ) × (field 0 255 s at ≡ got (get_or L i 0) mid) × Left listed_number s L l.end (i + 1) mid
      next_number L l =
          let w = left_on listed_number s L l.end i at 0 (omega (arith, l.size)) (e.entered L l).left in
          let a = then_got {B = ℕ} (λ v next. pick (is_among (take i L) v) (bad (fault_at kind.Twice at)) (got v next)) (field 0 255 s at) (get_or L i 0) w.0 w.1 in
          (w.0, a.2 ∙ same a.0 a.1 (is_among (take i L) a.0) a.3, w.2)
        where
          same : {x mid : ℕ} (v n : ℕ) (b : Bool) → pick b (bad (fault_at kind.Twice at)) (got v n) ≡ got x mid → ◌≡◌ {A = Parsed ℕ} (got v n) (got x mid)
          same v n true q = let z : ◌≡◌ {A = ℕ} 0 1 = cc in absurd (omega arith)
          same v n false q = q

      pub no_number : (f : Fault) → field 0 255 s at ≡ bad f → EntersAll t s from count sheet false
      no_number f g L l = absurd (got_or_bad (next_number L l).1 g)

      module _ (v next : ℕ) (g : field 0 255 s at ≡ got v next) where
        is_number : (L : List ℕ) (l : Listed s from count L) → (get_or L i 0 ≡ v) × Left listed_number s L l.end (i + 1) next
        is_number L l =
            let w = next_number L l in
            let q : ◌≡◌ {A = Parsed ℕ} (got (get_or L i 0) w.0) (got v next) = sym w.1 ∙ g in
            let a : get_or L i 0 ≡ v = cc q in
            let b : w.0 ≡ next = cc q in
            (a, subst (Left listed_number s L l.end (i + 1)) b w.2)

        -- What an order would say of it.
        means_from : (L : List ℕ) → Listed s from count L → Ordered t L → MeansFrom t (take i L) v
        means_from L l o = subst (MeansFrom t (take i L)) (is_number L l).0 (ordered_at t [] L i o (omega (arith, l.size)))

        module _ (keys names places table : List ℕ) (known : Known t table keys names places) where
          pub not_there : length names ≤ v → EntersAll t s from count sheet false
          not_there b L l = unordered (λ o. omega (arith, (means_from L l o).at.there, index_bindings t keys names known.index))

          module _ (a : Option Key) (leading : Leading t sheet v a) where
            pub leads_to_none : a ≡ None → EntersAll t s from count sheet false
            leads_to_none n L l =
                unordered (λ o.
                let m = means_from L l o in
                finds_none (leading.finds m.binding m.at) n m.key ((filling_leads t known.index.good sheet (take i L) (e.entered L l).filling m.binding.target m.key).1 m.means))

            pub enters_one : (k : Key) → a ≡ Some k → v < length names → v < length sheet → Entering room (set sheet v k.0) next (i + 1)
            enters_one k n b c = record {
              size = length-set sheet v k.0 ∙ e.size;
              most = omega arith;
              entered = λ L l. record {
                left = (is_number L l).1;
                filling = subst (Filling t (set sheet v k.0)) (sym (longer L l)) (filled L l (at_below t.bindings v (omega (arith, index_bindings t keys names known.index))));
              };
            }
              where
                longer : (L : List ℕ) → Listed s from count L → take (i + 1) L ≡ take i L ▷ v
                longer L l = ap (λ (n : ℕ). take n L) (add-one i) ∙ take-suc L i 0 (omega (arith, l.size)) ∙ ap (λ (n : ℕ). take i L ▷ n) (is_number L l).0

                still_zero : (L : List ℕ) → Listed s from count L → (n : ℕ) → entry sheet v ≡ n → entry sheet v ≡ 0
                still_zero L l zero z = z
                still_zero L l (suc n) z =
                    absurd (not_before L i l.none_twice (omega (arith, l.size)) (subst (In (take i L)) (sym (is_number L l).0)
                    ((e.entered L l).filling.listed v (omega (arith, b, index_bindings t keys names known.index)) (rw z (zero-lt-suc n)))))

                filled : (L : List ℕ) (l : Listed s from count L) → (x : Binding) × At t.bindings v x → Filling t (set sheet v k.0) (take i L ▷ v)
                filled L l x =
                    filling_step t known.index.good sheet (take i L) (e.entered L l).filling v x.0 k x.1 c (still_zero L l (entry sheet v) refl)
                    (finds_key (leading.finds x.0 x.1) n)
