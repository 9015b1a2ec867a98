-- The promise of the key decision leaves one answer.
use mathlib.Core.Path.{◌≡◌, refl, ap}
use mathlib.Core.List.{List}
use mathlib.Core.Option.{Option, some}
use Prim.Native.Nat.{ℕ}
use native.Mathlib.Omega.{arith}
use Rattle.rules.specs.KeyTables.{KeyRequest, key_setting}
use Rattle.rules.specs.Verdicts.{Verdict, DecidesByKeys}
use Rattle.rules.proofs.GreatestLaws.{has_one}
use Rattle.records.specs.Parsed.{Parsed, got}
use Rattle.records.proofs.ParsedLaws.{got_or_bad, some_or_none, got_one, bad_one, some_one}
use Rattle.table.specs.ReadKeyTable.{KeyLaid, key_table_of}
use Rattle.std.specs.Prelude.{Ok, Err}
use Rattle.keytable.specs.Deciding.{KeyAnswer, KeyDecides, fault, request, denied, granted}
use Rattle.keytable.specs.declared.KeyRefusal.TheVariants as refusal

-- Bytes hold one table and one request, and these have one verdict.
one_verdict : {p : Parsed KeyLaid} {o : Option KeyRequest} {l l' : KeyLaid} {end end' : ℕ} {r r' : KeyRequest} {v w : Verdict} → p ≡ got l end → p ≡ got l' end' → o ≡ some r → o ≡ some r'
    → DecidesByKeys (key_table_of l) r v → DecidesByKeys (key_table_of l') r' w → v ≡ w
one_verdict {l = l} {l' = l'} {r = r} {r' = r'} a a' b b' h h' =
    let i : l ≡ l' = got_one a a' in
    let j : r ≡ r' = some_one b b' in
    has_one (key_setting (key_table_of l) r.asked) r.subject h (rw (i, j) h')

-- TWO ANSWERS THAT MEET THE PROMISE ARE EQUAL.
pub key_decision_one : {table asks : List ℕ} {a b : KeyAnswer} → KeyDecides table asks a → KeyDecides table asks b → a ≡ b
key_decision_one (fault p) (fault p') = ap (λ e. Err (refusal.Table e)) (bad_one p p')
key_decision_one (fault p) (request p' q') = absurd (got_or_bad p' p)
key_decision_one (fault p) (denied p' q' v') = absurd (got_or_bad p' p)
key_decision_one (fault p) (granted p' q' v') = absurd (got_or_bad p' p)
key_decision_one (request p q) (fault p') = absurd (got_or_bad p p')
key_decision_one (request p q) (request p' q') = refl
key_decision_one (request p q) (denied p' q' v') = absurd (some_or_none q' q)
key_decision_one (request p q) (granted p' q' v') = absurd (some_or_none q' q)
key_decision_one (denied p q v) (fault p') = absurd (got_or_bad p p')
key_decision_one (denied p q v) (request p' q') = absurd (some_or_none q q')
key_decision_one (denied p q v) (denied p' q' v') = refl
key_decision_one (denied p q v) (granted {d = d} p' q' v') = let e = one_verdict p p' q q' v v' in let z : ◌≡◌ {A = ℕ} 0 1 = cc e in absurd (omega arith)
key_decision_one (granted p q v) (fault p') = absurd (got_or_bad p p')
key_decision_one (granted p q v) (request p' q') = absurd (some_or_none q q')
key_decision_one (granted {d = d} p q v) (denied p' q' v') = let e = one_verdict p p' q q' v v' in let z : ◌≡◌ {A = ℕ} 0 1 = cc e in absurd (omega arith)
key_decision_one (granted {d = d} p q v) (granted {d = d'} p' q' v') =
    let e = one_verdict p p' q q' v v' in
    let n : d.0 ≡ d'.0 = cc e in
    ap Ok (λ i. record { 0 = n i })
