-- Demand 3 is met.
use mathlib.Core.Path.{◌≡◌, refl, sym, ◌∙◌, ap, subst}
use mathlib.Core.List.{List}
use mathlib.Core.Logic.{◌↔◌}
use mathlib.Core.Option.{some}
use Prim.Native.Nat.{ℕ, ◌≤◌}
use native.Mathlib.Omega.{arith}
use lib.ListN.{length, take}
use Rattle.std.specs.Prelude.{Ok, Err}
use Rattle.rules.specs.Lists.{At}
use Rattle.rules.specs.Ranges.{Good, GoodKey, GoodTarget, GoodRequest, GoodKeyRequest}
use Rattle.rules.specs.Tables.{Target, to_key, to_name, Request, Table}
use Rattle.rules.specs.Names.{Means, TargetMeans}
use Rattle.rules.specs.Access.{Setting, Granted, setting}
use Rattle.rules.specs.KeyTables.{KeyRequest, key_setting}
use Rattle.rules.specs.Translation.{Translates}
use Rattle.rules.specs.Verdicts.{Verdict, Has, greatest, nothing}
use Rattle.rules.specs.Verdicts as verdict
use Rattle.rules.specs.declared.Key.{Key}
use Rattle.rules.specs.declared.Depth.{Depth}
use Rattle.rules.proofs.GreatestLaws.{has_one}
use Rattle.rules.proofs.NamesLaws.{target_one}
use Rattle.rules.proofs.Theorems.Translation.{translation_changes_nothing, idle_records_give_nothing}
use Rattle.wire.specs.Number.{Bytes}
use Rattle.records.specs.Parsed.{got}
use Rattle.records.specs.Requests.{read_request, read_key_request, key_request_bytes}
use Rattle.records.proofs.RequestsForm.{request_form, key_request_reads}
use Rattle.records.proofs.ParsedLaws.{got_or_bad, some_or_none, got_one, some_one}
use Rattle.table.specs.ReadTable.{Laid as LaidTable, table_of, read_table}
use Rattle.table.specs.ReadKeyTable.{KeyLaid, key_table_of, read_key_table, most_key_table}
use Rattle.table.proofs.Theorems.{table_form}
use Rattle.table.proofs.FindingLaws.{at_below}
use Rattle.decision.specs.Promise.{Decided}
use Rattle.translation.specs.Promise.{Translated, Answers, bad_table, room, done}
use Rattle.keytable.specs.Deciding.{KeyAnswer, KeyDecides, fault, request, denied, granted}
use Rattle.keytable.specs.declared.KeyRefusal.TheVariants as by_keys
use Rattle.translation.proofs.GoodLaws.{means_good}
use Rattle.translation.proofs.Theorems.{Loads, translation_loads}
use Rattle.demands.specs.DemandTwo.{Accepted}
use Rattle.demands.specs.DemandThree.{Succeeds, AsksTheSame, SameAnswer, TakenOut, SameDecision, DemandThree}
use Rattle.demands.proofs.OutcomeLaws.{Outcome, yes, no, outcome, unnamed_here, granted_at, same_depth}

-- ---- what a key has is one, however it is derived
has_alike : (Y Z : Setting) (k : Key) → ((d : ℕ) → Granted Y k d ↔ Granted Z k d) → {v : Verdict} → Has Y k v → Has Z k v
has_alike Y Z k f (greatest {d = d} g most) = greatest ((f d).0 g) (λ e h. most e ((f e).1 h))
has_alike Y Z k f (nothing n) = nothing (λ e h. n e ((f e).1 h))

-- ---- the translation succeeds
succeeds : (table before : List ℕ) → Bytes table → {l : LaidTable} {end : ℕ} → read_table table ≡ got l end → most_key_table ≤ length before → {a : Translated} {after : List ℕ} → Answers table before a after → Succeeds a after
succeeds table before b e r (bad_table f) = absurd (got_or_bad e f)
succeeds table before b e r (room f h) = absurd (omega (arith, r, h))
succeeds table before b e r (done f h k) = let w = translation_loads table before b _ _ (done f h k) in record { length' = _; done = refl; key_laid = w.key_laid; loads = w.loads }

-- ---- the same answer
-- The key decision, by what the key has.
data KeyOutcome (Y : Setting) (k : Key) : KeyAnswer → Type 0 where
  yes' : {d : Depth} → Has Y k (verdict.granted d.0) → KeyOutcome Y k (Ok d)
  no' : Has Y k verdict.denied → KeyOutcome Y k (Err by_keys.Denied)

key_outcome : {key_table key_request : List ℕ} {b : KeyAnswer} (l : KeyLaid) (n : ℕ) (r : KeyRequest) → read_key_table key_table ≡ got l n → read_key_request key_request ≡ some r → KeyDecides key_table key_request b
    → KeyOutcome (key_setting (key_table_of l) r.asked) r.subject b
key_outcome l n r e f (fault g) = absurd (got_or_bad e g)
key_outcome l n r e f (request g h) = absurd (some_or_none f h)
key_outcome l n r e f (denied g h v) = no' (rw (got_one g e, some_one h f) at v)
key_outcome l n r e f (granted g h v) = yes' (rw (got_one g e, some_one h f) at v)

apart : {d : ℕ} → verdict.granted d ≡ verdict.denied → ⊥
apart e = let z : ◌≡◌ {A = ℕ} 0 1 = cc e in absurd (omega arith)

module _ (Y Z : Setting) (k : Key) (same : (d : ℕ) → Granted Y k d ↔ Granted Z k d) where
  one : {v w : Verdict} → Has Y k v → Has Z k w → v ≡ w
  one h g = has_one Z k (has_alike Y Z k same h) g

  same_answer : (a : Decided) (b : KeyAnswer) → Outcome Y k a → KeyOutcome Z k b → SameAnswer a b
  same_answer a b (yes {d = d} {n = n} h) (yes' {d = c} g) =
      let e : d.0 ≡ c.0 = cc (one h g) in
      let f : d ≡ c = λ i. record { 0 = e i } in
      record {
        granted = λ x. (λ w. let p : d ≡ x = same_depth w.1 in ap Ok (sym f ∙ p), λ w. (n, let p : c ≡ x = cc w in ap (λ (z : Depth). granted_at z n) (f ∙ p)));
        denied = (λ w. let z : ◌≡◌ {A = ℕ} 0 1 = cc w in absurd (omega arith), λ w. let z : ◌≡◌ {A = ℕ} 0 1 = cc w in absurd (omega arith));
      }
  same_answer a b (yes h) (no' g) = absurd (apart (one h g))
  same_answer a b (no h) (yes' g) = absurd (apart (sym (one h g)))
  same_answer a b (no h) (no' g) = record {
    granted = λ x. (λ w. let z : ◌≡◌ {A = ℕ} 0 1 = cc w.1 in absurd (omega arith), λ w. let z : ◌≡◌ {A = ℕ} 0 1 = cc w in absurd (omega arith));
    denied = (λ w. refl, λ w. refl);
  }

  same_decision : (a b : Decided) → Outcome Y k a → Outcome Z k b → SameDecision a b
  same_decision a b (yes {d = d} {n = n} h) (yes {d = c} {n = m} g) =
      let e : d.0 ≡ c.0 = cc (one h g) in
      let f : d ≡ c = λ i. record { 0 = e i } in
      record {
        granted = λ x. (λ w. (m, let p : d ≡ x = same_depth w.1 in ap (λ (z : Depth). granted_at z m) (sym f ∙ p)), λ w. (n, let p : c ≡ x = same_depth w.1 in ap (λ (z : Depth). granted_at z n) (f ∙ p)));
        denied = (λ w. let z : ◌≡◌ {A = ℕ} 0 1 = cc w in absurd (omega arith), λ w. let z : ◌≡◌ {A = ℕ} 0 1 = cc w in absurd (omega arith));
      }
  same_decision a b (yes h) (no g) = absurd (apart (one h g))
  same_decision a b (no h) (yes g) = absurd (apart (sym (one h g)))
  same_decision a b (no h) (no g) = record {
    granted = λ x. (λ w. let z : ◌≡◌ {A = ℕ} 0 1 = cc w.1 in absurd (omega arith), λ w. let z : ◌≡◌ {A = ℕ} 0 1 = cc w.1 in absurd (omega arith));
    denied = (λ w. refl, λ w. refl);
  }

-- ---- over the bytes
module _ (table asked key_request : List ℕ) (b : Bytes table) (x : Accepted table asked) (q : AsksTheSame table asked key_request x) (n : ℕ) (after : List ℕ) (w : Loads table after n) where
  translates : Translates (Means (table_of x.laid).names) (table_of x.laid) (key_table_of w.key_laid)
  translates = subst (λ (z : LaidTable). Translates (Means (table_of z).names) (table_of z) (key_table_of w.key_laid)) (got_one w.reads x.table') w.translates

  same_bytes : (a : Decided) (c : KeyAnswer) → Outcome (setting (table_of x.laid) x.asked.asked) x.key a → KeyDecides (take n after) key_request c → SameAnswer a c
  same_bytes a c o h =
      same_answer (setting (table_of x.laid) x.asked.asked) (key_setting (key_table_of w.key_laid) (record { owner = q.owner; object = x.asked.asked.object; right = x.asked.asked.right })) x.key
      (λ d. translation_changes_nothing (table_of x.laid) (table_form table x.laid x.end b x.table').1 (key_table_of w.key_laid) translates x.asked.asked q.owner q.own x.key d)
      a c o (key_outcome w.key_laid n (record { subject = x.key; asked = record { owner = q.owner; object = x.asked.asked.object; right = x.asked.asked.right } }) w.loads q.read h)

module _ (table table' asked : List ℕ) (b : Bytes table) (x : Accepted table asked) (y : Accepted table' asked) (out : TakenOut x.laid y.laid) where
  abbrev less : Table
  less = record { names = (table_of x.laid).names; accesses = out.accesses; delegations = out.delegations }

  same_request : x.asked ≡ y.asked
  same_request = some_one x.request' (subst (λ (t : Table). read_request (length t.names.spaces) asked ≡ some y.asked) out.is y.request')

  same_key : x.key ≡ y.key
  same_key =
      target_one (table_of x.laid).names (table_form table x.laid x.end b x.table').1.names x.asked.subject x.key y.key x.named
      (subst (λ (r : Request). TargetMeans (table_of x.laid).names r.subject y.key) (sym same_request) (subst (λ (t : Table). TargetMeans t.names y.asked.subject y.key) out.is y.named))

  same_less : (a c : Decided) → Outcome (setting (table_of x.laid) x.asked.asked) x.key a → Outcome (setting (table_of y.laid) y.asked.asked) y.key c → SameDecision a c
  same_less a c o u =
      same_decision (setting (table_of x.laid) x.asked.asked) (setting less x.asked.asked) x.key
      (λ d. idle_records_give_nothing (table_of x.laid) out.accesses out.delegations out.idle x.asked.asked x.key d) a c o
      (subst (λ (k : Key). Outcome (setting less x.asked.asked) k c) (sym same_key)
      (subst (λ (r : Request). Outcome (setting less r.asked) y.key c) (sym same_request) (subst (λ (t : Table). Outcome (setting t y.asked.asked) y.key c) out.is u)))

-- ---- the same question, with keys
target_good : (t : Table) → Good t → (g : Target) → GoodTarget (length t.names.spaces) g → (k : Key) → TargetMeans t.names g k → GoodKey k
target_good t good (to_key x) h k e = subst GoodKey e h
target_good t good (to_name S p) h k m = means_good t.names good.names m

module _ (table question : List ℕ) (b : Bytes table) (c : Bytes question) (x : Accepted table question) where
  good_here : Good (table_of x.laid)
  good_here = (table_form table x.laid x.end b x.table').1

  good_question : GoodRequest (length (table_of x.laid).names.spaces) x.asked
  good_question = (request_form (length (table_of x.laid).names.spaces) (omega (arith, good_here.few_spaces)) question x.asked c x.request').1

  own : (k : Key) × At (table_of x.laid).names.spaces x.asked.asked.owner.0 k
  own = at_below (table_of x.laid).names.spaces x.asked.asked.owner.0 good_question.owner

  abbrev ask : KeyRequest
  ask = record { subject = x.key; asked = record { owner = own.0; object = x.asked.asked.object; right = x.asked.asked.right } }

  good_ask : GoodKeyRequest ask
  good_ask = record {
    subject = target_good (table_of x.laid) good_here x.asked.subject good_question.subject x.key x.named;
    owner = good_here.names.keys x.asked.asked.owner own.0 (record { at = own.1 });
    object = good_question.object;
    right = good_question.right;
  }

  asked : (key_request : List ℕ) × AsksTheSame table question key_request x
  asked = (key_request_bytes ask, record { owner = own.0; own = record { at = own.1 }; read = key_request_reads ask good_ask })

-- DEMAND 3 IS MET.
pub demand_three : DemandThree
demand_three = record {
  succeeds = λ table before after a l end b e r h. succeeds table before b e r h;
  asked = asked;
  same = λ table before after question key_request sheet₀ derivation₀ sheet derivation n a c b t x q room h k.
      same_bytes table question key_request b x q n after (translation_loads table before b n after t) a c (outcome table question sheet₀ derivation₀ b x h room) k;
  idle = λ table table' asked sheet₀ derivation₀ sheet derivation sheet' derivation' a c b b' x y out h room h' room'.
      same_less table table' asked b x y out a c (outcome table asked sheet₀ derivation₀ b x h room) (outcome table' asked sheet₀ derivation₀ b' y h' room');
  unnamed = λ table question sheet₀ derivation₀ sheet derivation a l end r e f n room h. unnamed_here table question sheet₀ derivation₀ l end r e f n room h;
}
