-- Derivations have one form: what was encoded is read, and what is read is its encoding; and where their numbers stand.
use mathlib.Core.Path.{◌≡◌, refl, sym, ◌∙◌, ap, subst}
use mathlib.Core.Bool.{Bool, true, false}
use mathlib.Core.Logic.{◌⊎◌, inl, inr, ◌↔◌, ⊎_elim}
use mathlib.Core.List.{List, [], ◌∷◌, ◌++◌, append-nil}
use mathlib.Core.Option.{some}
use Prim.Native.Nat.{ℕ, suc, ◌+◌, ◌-◌, ◌<◌, ◌≤◌}
use native.Mathlib.Omega.{arith}
use lib.Dec.{eqb}
use lib.ListN.{length}
use borrow.Author.Tests.{eqb-true, eqb-false}
use Rattle.rules.specs.Choice.{pick}
use Rattle.rules.specs.Depths.{top}
use Rattle.rules.specs.Derivations.{Derivation}
use Rattle.rules.specs.Lists.{At, ◌▷◌, In, NoneTwice}
use Rattle.rules.specs.Ranges.{Between, most_bindings, most_accesses, most_delegations}
use Rattle.rules.proofs.ListsLaws.{in_snoc, in_left, in_last, at_head, at_tail}
use Rattle.wire.specs.Number.{bytes_of, Bytes}
use Rattle.records.specs.Parsed.{Parsed, got, Reader, ◌⟫◌, ◌⊗◌, mapped}
use Rattle.records.specs.Fields.{field}
use Rattle.records.specs.Rows.{is_among}
use Rattle.records.specs.Many.{many, many_bytes}
use Rattle.records.specs.DerivationBytes.{most_derivation, listed_number, chain_number, GoodDerivation, Laid, derivation_fields, read_derivation, chain_bytes, derivation_bytes}
use Rattle.records.specs.declared.faults.Kind.TheVariants as kind
use Rattle.records.proofs.ParsedLaws.{then_got, got_then, then_on, then_on_twice, mapped_got, mapped_from}
use Rattle.records.proofs.FormatLaws.{Format, refit, led, led_format, refused_format, mapped_format, both_format}
use Rattle.records.proofs.FieldsForm.{field_format}
use Rattle.records.proofs.ManyLaws.{many_length}
use Rattle.records.proofs.ManyForm.{AllFit, many_format, fit_at, at_fit}
use Rattle.records.proofs.RequestsLaws.{whole_got}
use Rattle.records.proofs.RequestsForm.{whole_form, whole_stood}

-- ---- numbers that are listed once
among_in : (l : List ℕ) (n : ℕ) → (is_among l n ≡ false) ↔ (In l n → ⊥)
unfolding is_among
among_in [] n = (λ e h. h, λ h. refl)
among_in (m ∷ l) n = go (eqb m n) refl (among_in l n)
  where
    go : (b : Bool) → eqb m n ≡ b → (is_among l n ≡ false) ↔ (In l n → ⊥) → (pick b true (is_among l n) ≡ false) ↔ (((m ≡ n) ⊎ In l n) → ⊥)
    go true q i = (λ e. let z : ◌≡◌ {A = ℕ} 0 1 = cc in absurd (omega arith), λ h. absurd (h (inl (eqb-true m n q))))
    go false q i = (λ e. ⊎_elim (eqb-false m n q) (i.0 e), λ h. i.1 (λ g. h (inr g)))

-- A binding number that is not one of the earlier.
abbrev Listed : List ℕ → ℕ → Type 0
Listed earlier v = Between 0 (most_bindings - 1) v × (is_among earlier v ≡ false)

abbrev Chained : List ℕ → ℕ → Type 0
Chained earlier v = Between 0 (most_delegations - 1) v

-- Neither with one another nor with the earlier have they a number in common.
listed_apart : (earlier l : List ℕ) → AllFit Listed earlier l → NoneTwice l × ((v : ℕ) → In l v → In earlier v → ⊥)
listed_apart earlier [] h = (tt, λ v g. absurd g)
listed_apart earlier (x ∷ l) h = go (listed_apart (earlier ▷ x) l h.1)
  where
    go : NoneTwice l × ((v : ℕ) → In l v → In (earlier ▷ x) v → ⊥) → NoneTwice (x ∷ l) × ((v : ℕ) → In (x ∷ l) v → In earlier v → ⊥)
    go r = ((λ g. r.1 x g (in_last earlier x), r.0), λ v. ⊎_elim (λ e g. (among_in earlier x).0 h.0.1 (subst (In earlier) (sym e) g)) (λ g k. r.1 v g (in_left earlier (x ∷ []) v k)))

apart_listed : (earlier l : List ℕ) → ((i b : ℕ) → At l i b → b < most_bindings) → NoneTwice l → ((v : ℕ) → In l v → In earlier v → ⊥) → AllFit Listed earlier l
apart_listed earlier [] f n d = tt
apart_listed earlier (x ∷ l) f n d = (
  (record { least = omega arith; most = omega (arith, f 0 x at_head) }, (among_in earlier x).1 (d x (inl refl))),
  apart_listed (earlier ▷ x) l (λ i b a. f (suc i) b (at_tail a)) n.1 (λ v g k. ⊎_elim (d v (inr g)) (λ e. n.0 (subst (In l) (sym e) g)) (in_snoc earlier x v k)),
)

-- ---- a derivation without its places
abbrev binding_numbers : Reader (List ℕ)
binding_numbers = led (field 0 most_bindings) (λ n. many listed_number n [])

abbrev chain_numbers : Reader (ℕ × List ℕ)
chain_numbers = led (field 1 (suc top)) (λ m. field 0 (most_accesses - 1) ⊗ many chain_number (m - 1) [])

abbrev derived : List ℕ × (ℕ × List ℕ) → Derivation
derived w = record { bindings = w.0; access = w.1.0; delegations = w.1.1 }

abbrev bare : Reader Derivation
bare = mapped derived (binding_numbers ⊗ chain_numbers)

bindings_format : Format (λ l. Between 0 most_bindings (length l) × AllFit Listed [] l) binding_numbers (λ l. bytes_of (length l) ++ many_bytes bytes_of l)
bindings_format =
    led_format (field 0 most_bindings) (λ n. many listed_number n []) (Between 0 most_bindings) bytes_of (AllFit Listed []) (many_bytes bytes_of) length (field_format 0 most_bindings (omega arith))
    (λ n fit. refit (λ l. (length l ≡ n) × AllFit Listed [] l) _ (many listed_number n []) (many_bytes bytes_of) (λ l. (λ w. (w.1, w.0), λ w. (w.1, w.0)))
    (many_format listed_number Listed bytes_of (λ earlier. refused_format kind.Twice (is_among earlier) (field 0 (most_bindings - 1)) _ _ (field_format 0 (most_bindings - 1) (omega arith))) n []))

chain_format : Format (λ w. Between 1 (suc top) (suc (length w.1)) × (Between 0 (most_accesses - 1) w.0 × AllFit Chained [] w.1)) chain_numbers (λ w. chain_bytes w.0 w.1)
chain_format =
    led_format (field 1 (suc top)) (λ m. field 0 (most_accesses - 1) ⊗ many chain_number (m - 1) []) (Between 1 (suc top)) bytes_of (λ w. Between 0 (most_accesses - 1) w.0 × AllFit Chained [] w.1)
    (λ w. bytes_of w.0 ++ many_bytes bytes_of w.1) (λ w. suc (length w.1)) (field_format 1 (suc top) (omega arith)) behind
  where
    behind : (m : ℕ) → Between 1 (suc top) m → Format (λ w. (Between 0 (most_accesses - 1) w.0 × AllFit Chained [] w.1) × (suc (length w.1) ≡ m)) (field 0 (most_accesses - 1) ⊗ many chain_number (m - 1) []) (λ w. bytes_of w.0 ++ many_bytes bytes_of w.1)
    behind m fit =
        refit (λ (w : ℕ × List ℕ). Between 0 (most_accesses - 1) w.0 × ((length w.1 ≡ m - 1) × AllFit Chained [] w.1)) _ _ _
        (λ w. (λ h. ((h.0, h.1.1), omega (arith, fit.least, h.1.0)), λ h. (h.0.0, (omega (arith, fit.least, h.1), h.0.1))))
        (both_format (field 0 (most_accesses - 1)) (many chain_number (m - 1) []) _ _ _ _ (field_format 0 (most_accesses - 1) (omega arith))
        (many_format chain_number Chained bytes_of (λ earlier. field_format 0 (most_delegations - 1) (omega arith)) (m - 1) []))

bare_format : Format GoodDerivation bare derivation_bytes
bare_format =
    refit _ GoodDerivation bare derivation_bytes same
    (mapped_format derived (binding_numbers ⊗ chain_numbers) _ _ (λ v. (v.bindings, (v.access, v.delegations))) (λ v. Unit {0}) (λ w. tt) (λ w. refl) (λ v u. refl)
    (both_format binding_numbers chain_numbers _ _ _ _ bindings_format chain_format))
  where
    same : (v : Derivation)
        → (((Between 0 most_bindings (length v.bindings) × AllFit Listed [] v.bindings)
        × (Between 1 (suc top) (suc (length v.delegations)) × (Between 0 (most_accesses - 1) v.access × AllFit Chained [] v.delegations))) × Unit {0})
        ↔ GoodDerivation v
    same v = (
      λ w. record {
        few = w.0.0.0.most;
        bindings = λ i b a. omega (arith, (fit_at Listed [] v.bindings i b w.0.0.1 a).0.most);
        none_twice = (listed_apart [] v.bindings w.0.0.1).0;
        access = omega (arith, w.0.1.1.0.most);
        short = omega (arith, w.0.1.0.most);
        delegations = λ j d a. omega (arith, (fit_at Chained [] v.delegations j d w.0.1.1.1 a).most);
      },
      λ g. (
        (
          (record { least = omega arith; most = g.few }, apart_listed [] v.bindings g.bindings g.none_twice (λ x h k. k)),
          (
            record { least = omega arith; most = omega (arith, g.short) },
            (
              record { least = omega arith; most = omega (arith, g.access) },
              at_fit Chained [] v.delegations (λ j d a. record { least = omega arith; most = omega (arith, g.delegations j d a) }),
            ),
          ),
        ),
        tt,
      ),
    )

-- Reading a derivation with its places is reading it.
abbrev flat : Reader Derivation
flat s at =
    field 0 most_bindings s at ⟫ λ n at.
    many listed_number n [] s at ⟫ λ bindings at.
    field 1 (suc top) s at ⟫ λ m at.
    field 0 (most_accesses - 1) s at ⟫ λ access at.
    many chain_number (m - 1) [] s at ⟫ λ delegations at.
    got (record { bindings = bindings; access = access; delegations = delegations }) at

laid_flat : (s : List ℕ) (at : ℕ) → mapped (λ (l : Laid). l.derivation) derivation_fields s at ≡ flat s at
unfolding derivation_fields mapped
laid_flat s at = then_on _ _ _ _ (λ n first. then_on _ _ _ _ (λ bindings at. then_on _ _ _ _ (λ m chain. then_on _ _ _ _ (λ access at. then_on _ _ _ _ (λ delegations at. got_then _ _ refl)))))

bare_flat : (s : List ℕ) (at : ℕ) → bare s at ≡ flat s at
unfolding mapped ◌⊗◌
bare_flat s at = then_on_twice _ _ _ _ _ (λ n at. then_on _ _ _ _ (λ bindings at. then_on_twice _ _ _ _ _ (λ m at. then_on_twice _ _ _ _ _ (λ access at. then_on_twice _ _ _ _ _ (λ delegations at. got_then _ _ (got_then _ _ refl))))))

-- ---- a whole derivation
-- Reading what was encoded gives it back.
pub derivation_reads : (v : Derivation) → GoodDerivation v → length (derivation_bytes v) ≤ most_derivation → (l : Laid) × (read_derivation (derivation_bytes v) ≡ some l) × (l.derivation ≡ v)
unfolding read_derivation
derivation_reads v g h =
    let s = derivation_bytes v in
    let r = bare_format.reads v s 0 [] g (sym (append-nil s)) in
    let w = mapped_from (λ (l : Laid). l.derivation) derivation_fields s 0 v (0 + length s) (laid_flat s 0 ∙ sym (bare_flat s 0) ∙ r) in
    (w.0, whole_got derivation_fields s most_derivation w.0 (0 + length s) h w.1 (omega arith), w.2)

-- What reads as good is the encoding of what was read.
pub derivation_form : (s : List ℕ) (l : Laid) → Bytes s → read_derivation s ≡ some l → (s ≡ derivation_bytes l.derivation) × GoodDerivation l.derivation
unfolding read_derivation
derivation_form s l b e =
    let a = (whole_form most_derivation derivation_fields s l e).1 in
    whole_stood GoodDerivation derivation_bytes s l.derivation (bare_format.form l.derivation s 0 (length s) b (bare_flat s 0 ∙ sym (laid_flat s 0) ∙ mapped_got (λ (l : Laid). l.derivation) derivation_fields s 0 a))

-- Where its numbers stand.
pub record Standing (s : List ℕ) (l : Laid) : Type 0 where
  pub middle : ℕ
  pub after : ℕ
  pub bindings : many listed_number (length l.derivation.bindings) [] s l.first ≡ got l.derivation.bindings middle
  pub access : field 0 (most_accesses - 1) s l.chain ≡ got l.derivation.access after
  pub delegations : many chain_number (length l.derivation.delegations) [] s after ≡ got l.derivation.delegations (length s)

pub derivation_stands : (s : List ℕ) (l : Laid) → read_derivation s ≡ some l → Standing s l
unfolding read_derivation derivation_fields
derivation_stands s l e =
    let a = then_got _ (field 0 most_bindings s 0) l (length s) (whole_form most_derivation derivation_fields s l e).1 in
    let b = then_got _ (many listed_number a.0 [] s a.1) l (length s) a.3 in
    let c = then_got _ (field 1 (suc top) s b.1) l (length s) b.3 in
    let d = then_got _ (field 0 (most_accesses - 1) s c.1) l (length s) c.3 in
    let f = then_got _ (many chain_number (c.0 - 1) [] s d.1) l (length s) d.3 in
    stand a.0 a.1 b.0 b.1 c.0 c.1 d.0 d.1 f.0 f.1 b.2 d.2 f.2 f.3
  where
    laid : List ℕ → ℕ → ℕ → ℕ → List ℕ → Laid
    laid bindings first chain access delegations = record { derivation = record { bindings = bindings; access = access; delegations = delegations }; first = first; chain = chain }

    stand : (n first : ℕ) (bindings : List ℕ) (middle m chain access after : ℕ) (delegations : List ℕ) (end : ℕ) → many listed_number n [] s first ≡ got bindings middle
        → field 0 (most_accesses - 1) s chain ≡ got access after → many chain_number (m - 1) [] s after ≡ got delegations end
        → ◌≡◌ {A = Parsed Laid} (got (laid bindings first chain access delegations) end) (got l (length s)) → Standing s l
    stand n first bindings middle m chain access after delegations end p q r e =
        let u : laid bindings first chain access delegations ≡ l = cc in
        let v : end ≡ length s = cc in
        subst (Standing s) u record {
          middle = middle;
          after = after;
          bindings = rw (many_length listed_number n [] bindings s first middle p) p;
          access = q;
          delegations = rw (many_length chain_number (m - 1) [] delegations s after end r) (r ∙ ap (got delegations) v);
        }
