-- What the decision finds for an accepted request whose subject has a meaning.
use mathlib.Core.Path.{◌≡◌, refl, ap, subst}
use mathlib.Core.Logic.{◌⊎◌, inl, inr}
use mathlib.Core.List.{List}
use mathlib.Core.Option.{some}
use Prim.Native.Nat.{ℕ, ◌<◌, ◌≤◌}
use native.Mathlib.Omega.{arith}
use lib.ListN.{length}
use Rattle.rules.specs.Tables.{Request, Table}
use Rattle.rules.specs.Ranges.{Good}
use Rattle.rules.specs.Names.{TargetMeans}
use Rattle.rules.specs.Access.{Setting, setting}
use Rattle.rules.specs.Verdicts.{Verdict, Has}
use Rattle.rules.specs.Verdicts as verdict
use Rattle.rules.specs.declared.Key.{Key}
use Rattle.rules.specs.declared.Depth.{Depth}
use Rattle.rules.proofs.NamesLaws.{target_one}
use Rattle.wire.specs.Number.{Bytes}
use Rattle.records.specs.Parsed.{got}
use Rattle.records.specs.Requests.{read_request}
use Rattle.records.specs.DerivationBytes.{most_derivation}
use Rattle.records.proofs.ParsedLaws.{got_or_bad, some_or_none, got_one, some_one}
use Rattle.table.specs.ReadTable.{Laid as LaidTable, table_of, read_table}
use Rattle.table.proofs.Theorems.{table_form}
use Rattle.decision.specs.Promise.{sheet_size, DecidesGood, bad_request, room, unnamed, denied, granted, overrun, Decides, bad_table, good_table, Decided}
use Rattle.decision.specs.declared.Grant.{Grant}
use Rattle.decision.specs.declared.Refusal.TheVariants as undecided
use Rattle.std.specs.Prelude.{Ok, Err}
use Rattle.demands.specs.DemandTwo.{Accepted, Room}

-- The answer, by what the key has.
pub data Outcome (Y : Setting) (k : Key) : Decided → Type 0 where
  yes : {d : Depth} {n : ℕ} → Has Y k (verdict.granted d.0) → Outcome Y k (Ok (record { depth = d; length = n }))
  no : Has Y k verdict.denied → Outcome Y k (Err undecided.Denied)

-- ---- grants that are equal
abbrev pub granted_at : Depth → ℕ → Decided
granted_at d n = Ok (record { depth = d; length = n })

same_grant : {g h : Grant} → ◌≡◌ {A = Decided} (Ok g) (Ok h) → g ≡ h
same_grant e = cc e

pub same_depth : {d e : Depth} {n m : ℕ} → granted_at d n ≡ granted_at e m → d ≡ e
same_depth e = ap (λ (g : Grant). g.depth) (same_grant e)

pub same_length : {d e : Depth} {n m : ℕ} → granted_at d n ≡ granted_at e m → n ≡ m
same_length e = ap (λ (g : Grant). g.length) (same_grant e)

no_room : (s v : List ℕ) → sheet_size ≤ length s → most_derivation ≤ length v → (length s < sheet_size) ⊎ (length v < most_derivation) → ⊥
no_room s v p q (inl h) = omega (arith, h, p)
no_room s v p q (inr h) = omega (arith, h, q)

module _ (t : Table) (good : Good t) (request sheet₀ derivation₀ : List ℕ) (r : Request) (e : read_request (length t.names.spaces) request ≡ some r) (k : Key) (named : TargetMeans t.names r.subject k)
    (p : sheet_size ≤ length sheet₀) (q : most_derivation ≤ length derivation₀) where
  has : {r' : Request} {k' : Key} {v : Verdict} → read_request (length t.names.spaces) request ≡ some r' → TargetMeans t.names r'.subject k' → Has (setting t r'.asked) k' v
      → Has (setting t r.asked) k v
  has {r'} {k'} {v} f m h =
      let same = some_one f e in
      let m' = subst (λ (z : Request). TargetMeans t.names z.subject k') same m in
      subst (λ (z : Key). Has (setting t r.asked) z v) (target_one t.names good.names r.subject k' k m' named) (subst (λ (z : Request). Has (setting t z.asked) k' v) same h)

  good_outcome : {a : Decided} {x v : List ℕ} → DecidesGood t request sheet₀ derivation₀ a x v → (a ≡ Err undecided.Overrun → ⊥) → Outcome (setting t r.asked) k a
  good_outcome (bad_request f) o = absurd (some_or_none e f)
  good_outcome (room f h) o = absurd (no_room sheet₀ derivation₀ p q h)
  good_outcome (unnamed w f) o = absurd (f k (subst (λ (z : Request). TargetMeans t.names z.subject k) (some_one e w.accepted) named))
  good_outcome (denied w m h) o = no (has w.accepted m h)
  good_outcome (granted w m h x) o = yes (has w.accepted m h)
  good_outcome (overrun w m h x l) o = absurd (o refl)

pub outcome : (table request sheet₀ derivation₀ : List ℕ) {a : Decided} {x v : List ℕ} → Bytes table → (y : Accepted table request) → Decides table request sheet₀ derivation₀ a x v → Room sheet₀ derivation₀ a
    → Outcome (setting (table_of y.laid) y.asked.asked) y.key a
outcome table request sheet₀ derivation₀ b y (bad_table e) w = absurd (got_or_bad y.table' e)
outcome table request sheet₀ derivation₀ {a} {x} {v} b y (good_table e h) w =
    good_outcome (table_of y.laid) (table_form table y.laid y.end b y.table').1 request sheet₀ derivation₀ y.asked y.request' y.key y.named w.sheet' w.derivation'
    (subst (λ (z : LaidTable). DecidesGood (table_of z) request sheet₀ derivation₀ a x v) (got_one e y.table') h) w.fits

-- ---- a subject without a meaning
module _ (t : Table) (request sheet₀ derivation₀ : List ℕ) (r : Request) (e : read_request (length t.names.spaces) request ≡ some r) (nobody : (k : Key) → TargetMeans t.names r.subject k → ⊥)
    (p : sheet_size ≤ length sheet₀) (q : most_derivation ≤ length derivation₀) where
  never : {s : Request} (k : Key) → read_request (length t.names.spaces) request ≡ some s → TargetMeans t.names s.subject k → ⊥
  never k f m = nobody k (subst (λ (z : Request). TargetMeans t.names z.subject k) (some_one f e) m)

  pub good_unnamed : {a : Decided} {x v : List ℕ} → DecidesGood t request sheet₀ derivation₀ a x v → a ≡ Err undecided.Unnamed
  good_unnamed (bad_request f) = absurd (some_or_none e f)
  good_unnamed (room f h) = absurd (no_room sheet₀ derivation₀ p q h)
  good_unnamed (unnamed w f) = refl
  good_unnamed (denied {k = k} w m h) = absurd (never k w.accepted m)
  good_unnamed (granted {k = k} w m h x) = absurd (never k w.accepted m)
  good_unnamed (overrun {k = k} w m h x l) = absurd (never k w.accepted m)

pub unnamed_here : (table request sheet₀ derivation₀ : List ℕ) {a : Decided} {x v : List ℕ} (l : LaidTable) (end : ℕ) (r : Request) → read_table table ≡ got l end
    → read_request (length (table_of l).names.spaces) request ≡ some r → ((k : Key) → TargetMeans (table_of l).names r.subject k → ⊥) → Room sheet₀ derivation₀ a
    → Decides table request sheet₀ derivation₀ a x v → a ≡ Err undecided.Unnamed
unnamed_here table request sheet₀ derivation₀ l end r e f n w (bad_table g) = absurd (got_or_bad e g)
unnamed_here table request sheet₀ derivation₀ {a} {x} {v} l end r e f n w (good_table g h) =
    good_unnamed (table_of l) request sheet₀ derivation₀ r f n w.sheet' w.derivation' (subst (λ (z : LaidTable). DecidesGood (table_of z) request sheet₀ derivation₀ a x v) (got_one g e) h)
