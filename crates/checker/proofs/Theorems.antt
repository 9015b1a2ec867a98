-- The checker's promise fixes its answer.
use mathlib.Core.Path.{◌≡◌, refl, sym, ap, subst}
use mathlib.Core.List.{List}
use Prim.Native.Nat.{ℕ}
use Rattle.std.specs.Prelude.{Ok, Err}
use Rattle.rules.specs.Tables.{Request, Table}
use Rattle.rules.specs.declared.Depth.{Depth}
use Rattle.rules.specs.Derivations.{Holds}
use Rattle.rules.proofs.DerivationsLaws.{holds_one}
use Rattle.records.specs.DerivationBytes.{Laid}
use Rattle.records.specs.declared.faults.Fault.{Fault}
use Rattle.records.proofs.ParsedLaws.{got_or_bad, some_or_none, got_one, bad_one, some_one}
use Rattle.table.specs.ReadTable.{Laid as LaidTable, table_of}
use Rattle.checker.specs.Promise.{Checked, ChecksGood, bad_request, not_derivation, accepted, Checks, bad_table, good_table}
use Rattle.checker.specs.declared.Refusal.TheVariants as refusal

module _ (t : Table) (request derivation : List ℕ) where
  same_holds : {r r' : Request} {v v' : Laid} {d : ℕ} → r' ≡ r → v' ≡ v → Holds t r' v'.derivation d → Holds t r v.derivation d
  same_holds {r} {r'} {v} {v'} {d} e f h = subst (λ (x : Laid). Holds t r x.derivation d) f (subst (λ (x : Request). Holds t x v'.derivation d) e h)

  good_one : {a b : Checked} → ChecksGood t request derivation a → ChecksGood t request derivation b → a ≡ b
  good_one (bad_request e) (bad_request f) = refl
  good_one (bad_request e) (not_derivation f n) = absurd (some_or_none f e)
  good_one (bad_request e) (accepted f g h) = absurd (some_or_none f e)
  good_one (not_derivation e n) (bad_request f) = absurd (some_or_none e f)
  good_one (not_derivation e n) (not_derivation f m) = refl
  good_one (not_derivation {r = r} e n) (accepted {r = r'} {v = v} {d = d} f g h) =
      absurd (n v d.0 g (same_holds (some_one f e) (λ i. v) h))
  good_one (accepted e g h) (bad_request f) = absurd (some_or_none e f)
  good_one (accepted {r = r} {v = v} {d = d} e g h) (not_derivation {r = r'} f n) = absurd (n v d.0 g (same_holds (some_one e f) (λ i. v) h))
  good_one (accepted {r = r} {v = v} {d = d} e g h) (accepted {r = r'} {v = v'} {d = d'} f k m) =
      let p = holds_one t r v.derivation d.0 d'.0 h (same_holds (some_one f e) (some_one k g) m) in
      ap (λ (x : Depth). Ok x) (λ i. record { 0 = p i })

-- TWO ANSWERS THAT MEET THE PROMISE ARE EQUAL.
pub checks_one : (table request derivation : List ℕ) {a b : Checked} → Checks table request derivation a → Checks table request derivation b → a ≡ b
checks_one table request derivation (bad_table e) (bad_table h) = ap (λ (f : Fault). Err (refusal.Table f)) (bad_one e h)
checks_one table request derivation (bad_table e) (good_table h x) = absurd (got_or_bad h e)
checks_one table request derivation (good_table h x) (bad_table e) = absurd (got_or_bad h e)
checks_one table request derivation {a} {b} (good_table {l = l} h x) (good_table g y) =
    good_one (table_of l) request derivation x (subst (λ (z : LaidTable). ChecksGood (table_of z) request derivation b) (sym (got_one h g)) y)
