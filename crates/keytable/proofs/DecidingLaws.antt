-- The answer to a request, by the code that settles it.
use mathlib.Core.Path.{◌≡◌, refl, sym, ap, subst}
use mathlib.Core.List.{List}
use mathlib.Core.Option.{Option, none, some}
use Prim.Native.Nat.{ℕ, zero, suc}
use native.Mathlib.Omega.{arith}
use Rattle.std.specs.Prelude.{Some, None}
use Rattle.rules.specs.KeyTables.{KeyTable, KeyRequest}
use Rattle.rules.specs.Verdicts.{DecidesByKeys}
use Rattle.rules.specs.Greatest.{verdict_of}
use Rattle.records.specs.Parsed.{got}
use Rattle.records.specs.Requests.{read_key_request, held_as, key_request_value}
use Rattle.records.specs.declared.requests.KeyRequest.{KeyRequest as KeyRequestValue}
use Rattle.table.specs.ReadKeyTable.{KeyLaid, key_table_of, read_key_table}
use Rattle.keytable.specs.Loading.{key_table_at}
use Rattle.keytable.specs.Matching.{key_request_of}
use Rattle.keytable.specs.Deciding.{KeyAnswer, KeyDecides, denied, granted}
use Rattle.keytable.specs.Settling.{answer_of}
use Rattle.keytable.proofs.KnownLaws.{table_at_lem}

-- ---- what was asked
pub asked_none : (o : Option KeyRequest) → None ≡ held_as key_request_value o → o ≡ none
asked_none none e = refl
asked_none (some x) e = let z : ◌≡◌ {A = ℕ} 0 1 = cc in absurd (omega arith)

pub asked_some : (o : Option KeyRequest) {v : KeyRequestValue} → Some v ≡ held_as key_request_value o → o ≡ some (key_request_of v)
asked_some none e = let z : ◌≡◌ {A = ℕ} 0 1 = cc in absurd (omega arith)
asked_some (some x) {v = v} e = let q : v ≡ key_request_value x = cc in ap some (sym (ap key_request_of q))

-- ---- the decision
pub settles : (table asks : List ℕ) (l : KeyLaid) (end : ℕ) → read_key_table table ≡ got l end → (r : KeyRequest) → read_key_request asks ≡ some r
    → (c : ℕ) → DecidesByKeys (key_table_at table) r (verdict_of c) → (a : KeyAnswer) → a ≡ answer_of c → KeyDecides table asks a
settles table asks l end e r q c v a is = subst (KeyDecides table asks) (sym is) (go c (subst (λ (t : KeyTable). DecidesByKeys t r (verdict_of c)) (table_at_lem table l end e) v))
  where
    go : (c : ℕ) → DecidesByKeys (key_table_of l) r (verdict_of c) → KeyDecides table asks (answer_of c)
    go zero v = denied e q v
    go (suc d) v = granted e q v
