-- Demand 2 is met.
use mathlib.Core.Path.{◌≡◌, refl, sym, ◌∙◌, ap, subst}
use mathlib.Core.List.{List}
use mathlib.Core.Option.{some}
use Prim.Native.Nat.{ℕ, ◌≤◌}
use native.Mathlib.Nat.{zero-add}
use native.Mathlib.Omega.{arith}
use lib.ListN.{length, take}
use Rattle.std.specs.Prelude.{Ok}
use Rattle.rules.specs.Tables.{Request, Table}
use Rattle.rules.specs.Ranges.{Good}
use Rattle.rules.specs.Names.{TargetMeans}
use Rattle.rules.specs.Access.{setting, Granted}
use Rattle.rules.specs.Derivations.{Derivation, Holds}
use Rattle.rules.specs.Verdicts.{greatest, nothing, Grants}
use Rattle.rules.specs.declared.Key.{Key}
use Rattle.rules.specs.declared.Depth.{Depth}
use Rattle.rules.proofs.NamesLaws.{target_one}
use Rattle.rules.proofs.DerivationsLaws.{holds_one}
use Rattle.wire.specs.Number.{Bytes}
use Rattle.wire.specs.Placed.{placed}
use Rattle.wire.proofs.PlacedLaws.{placed_take}
use Rattle.records.specs.DerivationBytes.{Laid, read_derivation, most_derivation, derivation_fields}
use Rattle.records.proofs.ParsedLaws.{got_or_bad, some_or_none, got_one, some_one}
use Rattle.records.proofs.RequestsForm.{whole_form}
use Rattle.table.specs.ReadTable.{Laid as LaidTable, table_of}
use Rattle.table.proofs.Theorems.{table_form}
use Rattle.checker.specs.Promise.{Checked, ChecksGood, bad_request, not_derivation, accepted, Checks, bad_table, good_table}
use Rattle.decision.specs.Promise.{DecidesGood, Decides, Decided}
use Rattle.decision.specs.Promise as promise
use Rattle.demands.specs.DemandTwo.{Accepted, GrantedExactly, HoldsHere, DemandTwo}
use Rattle.demands.proofs.OutcomeLaws.{Outcome, yes, no, outcome, same_depth, same_length}

-- ---- granted exactly
pub key_granted : (t : Table) → Good t → (r : Request) (k : Key) → TargetMeans t.names r.subject k → (e : ℕ) → Grants t r e → Granted (setting t r.asked) k e
key_granted t good r k named e g = subst (λ (z : Key). Granted (setting t r.asked) z e) (target_one t.names good.names r.subject g.key k g.subject named) g.granted

exactly : (table request : List ℕ) → Bytes table → (x : Accepted table request) (a : Decided) → Outcome (setting (table_of x.laid) x.asked.asked) x.key a → GrantedExactly table request x a
exactly table request b x a (yes {d = d} {n = n} (greatest g most)) = record {
  derived = λ e m h. record { key = x.key; subject = x.named; granted = subst (λ (z : Depth). Granted (setting (table_of x.laid) x.asked.asked) x.key z.0) (same_depth h) g };
  greatest = λ c m h e f. subst (λ (z : Depth). e ≤ z.0) (same_depth h) (most e (key_granted (table_of x.laid) (table_form table x.laid x.end b x.table').1 x.asked x.key x.named e f));
  granted = λ e f. (d, n, refl);
  denied = (λ h. let z : ◌≡◌ {A = ℕ} 0 1 = cc h in absurd (omega arith), λ f. absurd (f d.0 (record { key = x.key; subject = x.named; granted = g })));
}
exactly table request b x a (no (nothing f)) =
    let none : (e : ℕ) → Grants (table_of x.laid) x.asked e → ⊥ = λ e g. f e (key_granted (table_of x.laid) (table_form table x.laid x.end b x.table').1 x.asked x.key x.named e g) in
    record {
      derived = λ d n h. let z : ◌≡◌ {A = ℕ} 0 1 = cc h in absurd (omega arith);
      greatest = λ d n h. let z : ◌≡◌ {A = ℕ} 0 1 = cc h in absurd (omega arith);
      granted = λ e g. absurd (none e g);
      denied = (λ h. none, λ g. refl);
    }

-- ---- what was written is accepted
derivation_short : (s : List ℕ) (l : Laid) → read_derivation s ≡ some l → length s ≤ most_derivation
unfolding read_derivation
derivation_short s l e = (whole_form most_derivation derivation_fields s l e).0

front : (before bytes : List ℕ) → length bytes ≤ length before → take (length bytes) (placed before 0 bytes) ≡ bytes
front before bytes h = rw zero-add at (placed_take before bytes 0 (omega (arith, h)))

good_written : {t : Table} {request sheet₀ derivation₀ x v : List ℕ} {a : Decided} → DecidesGood t request sheet₀ derivation₀ a x v → (d : Depth) (n : ℕ) → a ≡ Ok (record { depth = d; length = n })
    → ChecksGood t request (take n v) (Ok d)
good_written (promise.bad_request e) d n h = let z : ◌≡◌ {A = ℕ} 0 1 = cc h in absurd (omega arith)
good_written (promise.room e f) d n h = let z : ◌≡◌ {A = ℕ} 0 1 = cc h in absurd (omega arith)
good_written (promise.unnamed p f) d n h = let z : ◌≡◌ {A = ℕ} 0 1 = cc h in absurd (omega arith)
good_written (promise.denied p m f) d n h = let z : ◌≡◌ {A = ℕ} 0 1 = cc h in absurd (omega arith)
good_written (promise.overrun p m f x l) d n h = let z : ◌≡◌ {A = ℕ} 0 1 = cc h in absurd (omega arith)
good_written {t = t} {request = request} {derivation₀ = derivation₀} (promise.granted {r = r} {d = c} {bytes = bytes} p m f x) d n h =
    let w : read_derivation (take (length bytes) (placed derivation₀ 0 bytes)) ≡ some x.laid = ap read_derivation (front derivation₀ bytes (omega (arith, derivation_short bytes x.laid x.read, p.room_for_derivation))) ∙ x.read in
    let y : ChecksGood t request (take (length bytes) (placed derivation₀ 0 bytes)) (Ok c)
    = accepted p.accepted w (subst (λ (v : Derivation). Holds t r v c.0) (sym x.same) x.shown.holds) in
    let e : c ≡ d = same_depth h in
    let g : length bytes ≡ n = same_length h in
    subst (λ (z : Depth). ChecksGood t request (take n (placed derivation₀ 0 bytes)) (Ok z)) e
    (subst (λ (z : ℕ). ChecksGood t request (take z (placed derivation₀ 0 bytes)) (Ok c)) g y)

written : {table request sheet₀ derivation₀ x v : List ℕ} {a : Decided} → Decides table request sheet₀ derivation₀ a x v → (d : Depth) (n : ℕ) → a ≡ Ok (record { depth = d; length = n })
    → Checks table request (take n v) (Ok d)
written (promise.bad_table e) d n h = let z : ◌≡◌ {A = ℕ} 0 1 = cc h in absurd (omega arith)
written (promise.good_table e w) d n h = good_table e (good_written w d n h)

-- ---- accepted is what holds
holds_here : {table request derivation : List ℕ} {a : Checked} → Checks table request derivation a → (d : Depth) → a ≡ Ok d → HoldsHere table request derivation d.0
holds_here (bad_table e) d h = let z : ◌≡◌ {A = ℕ} 0 1 = cc h in absurd (omega arith)
holds_here (good_table e (bad_request f)) d h = let z : ◌≡◌ {A = ℕ} 0 1 = cc h in absurd (omega arith)
holds_here (good_table e (not_derivation f n)) d h = let z : ◌≡◌ {A = ℕ} 0 1 = cc h in absurd (omega arith)
holds_here (good_table {l = l} {end = end} e (accepted {r = r} {v = v} {d = c} f g k)) d h =
    record { laid = l; end = end; table' = e; asked = r; request' = f; shown = v; derivation' = g; holds = subst (λ (z : Depth). Holds (table_of l) r v.derivation z.0) (cc h) k }

accepted_here : {table request derivation : List ℕ} {a : Checked} → Checks table request derivation a → (d : Depth) → HoldsHere table request derivation d.0 → a ≡ Ok d
accepted_here (bad_table e) d h = absurd (got_or_bad h.table' e)
accepted_here {request = request} {derivation = derivation} (good_table {l = l} {r = a} e w) d h =
    go a (subst (λ (z : LaidTable). ChecksGood (table_of z) request derivation a) (got_one e h.table') w)
  where
    go : (b : Checked) → ChecksGood (table_of h.laid) request derivation b → b ≡ Ok d
    go b (bad_request f) = absurd (some_or_none h.request' f)
    go b (not_derivation {r = r} f n) =
        absurd (n h.shown d.0 h.derivation' (subst (λ (z : Request). Holds (table_of h.laid) z h.shown.derivation d.0) (some_one h.request' f) h.holds))
    go b (accepted {r = r} {v = v} {d = c} f g k) =
        let k' = subst (λ (z : Request). Holds (table_of h.laid) z v.derivation c.0) (some_one f h.request') k in
        let k'' = subst (λ (z : Laid). Holds (table_of h.laid) h.asked z.derivation c.0) (some_one g h.derivation') k' in
        let p = holds_one (table_of h.laid) h.asked h.shown.derivation c.0 d.0 k'' h.holds in
        ap (λ (x : Depth). Ok x) (λ i. record { 0 = p i })

-- DEMAND 2 IS MET.
pub demand_two : DemandTwo
demand_two = record {
  exactly = λ table request sheet₀ derivation₀ sheet derivation a b x h room. exactly table request b x a (outcome table request sheet₀ derivation₀ b x h room);
  written = λ table request sheet₀ derivation₀ sheet derivation d n h. written h d n refl;
  accepted = λ table request derivation a d h. (λ e. holds_here h d e, λ e. accepted_here h d e);
}
