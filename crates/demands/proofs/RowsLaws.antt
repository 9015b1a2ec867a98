-- The specimen's rows, over its bytes.
use mathlib.Core.Path.{◌≡◌, refl, sym, ◌∙◌, ap, subst}
use mathlib.Core.Logic.{◌⊎◌, inl, inr}
use mathlib.Core.List.{List, [], ◌∷◌}
use mathlib.Core.Option.{Option, none, some}
use mathlib.Core.Bool.{Bool, true, false, not, ◌&&◌}
use Prim.Native.Nat.{ℕ, zero, suc, ◌+◌, ◌<◌, ◌≤◌}
use native.Mathlib.Omega.{arith}
use lib.Dec.{T as T', T_not, ltb, eqb, ltb→lt, eqb_refl}
use lib.ListN.{length, take}
use Rattle.std.specs.Prelude.{Ok, Err}
use Rattle.rules.specs.Lists.{At, In, NoneTwice}
use Rattle.rules.specs.Tables.{Target, to_key, to_name, Request, Table}
use Rattle.rules.specs.Ranges.{Between, Good, GoodTarget, GoodPath}
use Rattle.rules.specs.Sheets.{entry, Exact}
use Rattle.rules.specs.Checking.{holds_at}
use Rattle.rules.specs.Derivations.{Derivation, Holds, Shown}
use Rattle.rules.specs.Specimen.{specimen}
use Rattle.rules.specs.Verdicts.{Verdict}
use Rattle.rules.specs.Verdicts as rule
use Rattle.rules.proofs.GoodLaws.{is_good}
use Rattle.rules.proofs.SheetsLaws.{exact_one}
use Rattle.rules.proofs.Theorems.Derivations.{the_check_is_right}
use Rattle.rules.proofs.Theorems.Verdicts.{a_request_has_one_verdict}
use Rattle.wire.specs.Number.{groups_of, Bytes}
use Rattle.records.specs.Many.{many_bytes}
use Rattle.records.specs.Paths.{names_bytes}
use Rattle.records.specs.Parsed.{got}
use Rattle.records.specs.Requests.{read_request, request_bytes}
use Rattle.records.specs.DerivationBytes.{Laid, read_derivation, derivation_bytes, most_derivation}
use Rattle.records.proofs.DerivationForm.{derivation_reads}
use Rattle.records.proofs.ParsedLaws.{got_or_bad, some_or_none, got_one, some_one}
use Rattle.records.proofs.RequestsForm.{request_reads}
use Rattle.wire.proofs.NumberLaws.{bytes_short}
use Rattle.table.specs.ReadTable.{Laid as LaidTable, table_of, read_table, table_bytes}
use Rattle.table.proofs.Theorems.{table_reads}
use Rattle.checker.specs.Promise.{Checked, ChecksGood, bad_request, not_derivation, accepted, Checks, bad_table, good_table}
use Rattle.decision.specs.Promise.{sheet_size, SheetFilled, DecidesGood, Decides, Decided}
use Rattle.decision.specs.Promise as promise
use Rattle.decision.specs.declared.Refusal.TheVariants as undecided
use Rattle.decision.proofs.ListedLaws.{ordered_below}
use Rattle.decision.proofs.WritingLaws.{many_short, derivation_size}
use Rattle.table.specs.ReadKeyTable.{most_key_table}
use Rattle.wire.specs.Placed.{placed}
use Rattle.translation.specs.Promise.{Translated, Answers}
use Rattle.translation.proofs.Theorems.{translation_one}
use Rattle.kernel.specs.Answers.{of_decided, of_checked}
use Rattle.demands.specs.Rows.{T}
use Rattle.demands.proofs.FewLaws.{few_below}

-- ---- the specimen, read
pub specimen_good : Good specimen
unfolding specimen
specimen_good = is_good specimen refl

pub specimen_read : (l : LaidTable) × (n : ℕ) × (read_table T ≡ got l n) × (table_of l ≡ specimen)
unfolding specimen groups_of many_bytes names_bytes table_bytes
specimen_read = let w = table_reads specimen specimen_good in (w.0, length T, w.1, w.2)

-- ---- requests for owner space 0, object 7
abbrev asks : Target → ℕ → Request
asks g right = record { subject = g; asked = record { owner = record { 0 = 0 }; object = 7; right = right } }

reads : (g : Target) (right : ℕ) → GoodTarget 3 g → 1 ≤ right → right ≤ 32 → read_request 3 (request_bytes (asks g right)) ≡ some (asks g right)
reads g right h a b = request_reads 3 (omega arith) (asks g right) (record { subject = h; owner = omega arith; object = omega arith; right = record { least = a; most = b } })

pub by_key : (k right : ℕ) → 1 ≤ k → k ≤ 4294967295 → 1 ≤ right → right ≤ 32 → read_request 3 (request_bytes (asks (to_key (record { 0 = k })) right)) ≡ some (asks (to_key (record { 0 = k })) right)
by_key k right a b c d = reads (to_key (record { 0 = k })) right (record { least = a; most = b }) c d

one_name : (n : ℕ) → 1 ≤ n → n ≤ 65535 → GoodPath (n ∷ [])
one_name n a b = record { short = omega arith; bases = λ i x h. go i x h }
  where
    go : (i x : ℕ) → At (n ∷ []) i x → Between 1 65535 x
    go zero x h = subst (Between 1 65535) h.is (record { least = a; most = b })
    go (suc i) x h = absurd (omega (arith, h.there))

pub by_name : (n right : ℕ) → 1 ≤ n → n ≤ 65535 → 1 ≤ right → right ≤ 32
    → read_request 3 (request_bytes (asks (to_name (record { 0 = 0 }) (n ∷ [])) right)) ≡ some (asks (to_name (record { 0 = 0 }) (n ∷ [])) right)
by_name n right a b c d = reads (to_name (record { 0 = 0 }) (n ∷ [])) right (omega arith, one_name n a b) c d

-- ---- decisions
-- The number and the depth of a verdict.
abbrev number : Verdict → ℕ
number (rule.granted d) = 0
number rule.unnamed = 10
number rule.denied = 11

abbrev depth : Verdict → ℕ
depth (rule.granted d) = d
depth rule.unnamed = 0
depth rule.denied = 0

abbrev Tells : Decided → Verdict → Type 0
Tells a v = ((of_decided a).number ≡ number v) × ((of_decided a).depth ≡ depth v)

verdicts : (t : Table) → Good t → (r s : Request) {o : Option Request} → o ≡ some r → o ≡ some s → (a : Decided) (u v : Verdict) → rule.Decides t s u → rule.Decides t r v → ((of_decided a).number ≡ number u) × ((of_decided a).depth ≡ depth u)
    → Tells a v
verdicts t good r s e f a u v x y (n, d) =
    let p : u ≡ v = a_request_has_one_verdict t good r (subst (λ (z : Request). rule.Decides t z u) (some_one f e) x) y in
    (n ∙ ap number p, d ∙ ap depth p)

-- A derivation over six bindings is short.
never_long : (t : Table) → length t.names.bindings ≤ 60 → (r : Request) (d : ℕ) (x : Shown t r d) → most_derivation < length (derivation_bytes x.derivation) → ⊥
never_long t few r d x long =
    let v = x.derivation in
    omega (
      arith,
      long,
      derivation_size v,
      bytes_short (length v.bindings),
      many_short v.bindings,
      few_below (length t.names.bindings) v.bindings x.holds.none_twice (ordered_below t.names [] v.bindings x.holds.ordered),
      few,
      bytes_short (length v.delegations + 1),
      bytes_short v.access,
      many_short v.delegations,
      x.short,
    )

good_tells : (t : Table) → Good t → length t.names.bindings ≤ 60 → (request sheet₀ derivation₀ : List ℕ) (r : Request) → read_request (length t.names.spaces) request ≡ some r
    → sheet_size ≤ length sheet₀ → most_derivation ≤ length derivation₀ → (v : Verdict) → rule.Decides t r v → (a : Decided) {x y : List ℕ} → DecidesGood t request sheet₀ derivation₀ a x y → Tells a v
good_tells t good few request sheet₀ derivation₀ r e p q v w a (promise.bad_request f) = absurd (some_or_none e f)
good_tells t good few request sheet₀ derivation₀ r e p q v w a (promise.room f (inl h)) = absurd (omega (arith, h, p))
good_tells t good few request sheet₀ derivation₀ r e p q v w a (promise.room f (inr h)) = absurd (omega (arith, h, q))
good_tells t good few request sheet₀ derivation₀ r e p q v w a (promise.unnamed z f) = verdicts t good r _ e z.accepted (Err undecided.Unnamed) rule.unnamed v (rule.means_nothing f) w (refl, refl)
good_tells t good few request sheet₀ derivation₀ r e p q v w a (promise.denied z m h) = verdicts t good r _ e z.accepted (Err undecided.Denied) rule.denied v (rule.named m h) w (refl, refl)
good_tells t good few request sheet₀ derivation₀ r e p q v w a (promise.granted {d = d} {bytes = bytes} z m h x) = verdicts t good r _ e z.accepted (Ok (record { depth = d; length = length bytes })) (rule.granted d.0) v (rule.named m h) w (refl, refl)
good_tells t good few request sheet₀ derivation₀ r e p q v w a (promise.overrun {r = s} {d = d} z m h x l) = absurd (never_long t few s d x l)

six : length specimen.names.bindings ≤ 60
unfolding specimen
six = omega arith

three : (request : List ℕ) {r : Request} → read_request 3 request ≡ some r → read_request (length specimen.names.spaces) request ≡ some r
unfolding specimen
three request e = e

pub decision_row : (request : List ℕ) (r : Request) → read_request 3 request ≡ some r → (v : Verdict) → rule.Decides specimen r v → (sheet₀ derivation₀ x y : List ℕ) (a : Decided) → sheet_size ≤ length sheet₀
    → most_derivation ≤ length derivation₀ → Decides T request sheet₀ derivation₀ a x y → Tells a v
decision_row request r e v c sheet₀ derivation₀ x y a p q (promise.bad_table f) = absurd (got_or_bad specimen_read.2 f)
decision_row request r e v c sheet₀ derivation₀ x y a p q (promise.good_table f h) =
    good_tells specimen specimen_good six request sheet₀ derivation₀ r (three request e) p q v c a
    (subst (λ (t : Table). DecidesGood t request sheet₀ derivation₀ a x y) specimen_read.3 (subst (λ (l : LaidTable). DecidesGood (table_of l) request sheet₀ derivation₀ a x y) (got_one f specimen_read.2) h))

-- ---- checks
-- What the computed check says.
abbrev pub Judged : Checked → Option ℕ → Type 0
Judged a (some d) = ((of_checked a).number ≡ 0) × ((of_checked a).depth ≡ d)
Judged a none = ((of_checked a).number ≡ 12) × ((of_checked a).depth ≡ 0)

good_judged : (request : List ℕ) (r : Request) → read_request (length specimen.names.spaces) request ≡ some r → (derivation : List ℕ) (v : Derivation)
    → (l : Laid) × (read_derivation derivation ≡ some l) × (l.derivation ≡ v) → (o : Option ℕ) → holds_at specimen r v ≡ o → (a : Checked) → ChecksGood specimen request derivation a → Judged a o
good_judged request r e derivation v w o c a (bad_request f) = absurd (some_or_none e f)
good_judged request r e derivation v w none c a (not_derivation f n) = (refl, refl)
good_judged request r e derivation v w (some d) c a (not_derivation {r = s} f n) =
    absurd (n w.0 d w.1 (subst (λ (z : Request). Holds specimen z w.0.derivation d) (some_one e f) (subst (λ (z : Derivation). Holds specimen r z d) (sym w.2) ((the_check_is_right specimen specimen_good.names r v d).0 c))))
good_judged request r e derivation v w o c a (accepted {r = s} {v = u} {d = d} f g h) = go o c
  where
    held : holds_at specimen r v ≡ some d.0
    held = (the_check_is_right specimen specimen_good.names r v d.0).1 (subst (λ (z : Derivation). Holds specimen r z d.0) w.2
        (subst (λ (z : Laid). Holds specimen r z.derivation d.0) (some_one g w.1) (subst (λ (z : Request). Holds specimen z u.derivation d.0) (some_one f e) h)))

    go : (o : Option ℕ) → holds_at specimen r v ≡ o → Judged (Ok d) o
    go none c = absurd (some_or_none held c)
    go (some b) c = (refl, some_one held c)

pub check_row : (request : List ℕ) (r : Request) → read_request 3 request ≡ some r → (derivation : List ℕ) (v : Derivation) → (l : Laid) × (read_derivation derivation ≡ some l) × (l.derivation ≡ v)
    → (o : Option ℕ) → holds_at specimen r v ≡ o → (a : Checked) → Checks T request derivation a → Judged a o
check_row request r e derivation v w o c a (bad_table f) = absurd (got_or_bad specimen_read.2 f)
check_row request r e derivation v w o c a (good_table f h) =
    good_judged request r (three request e) derivation v w o c a
    (subst (λ (t : Table). ChecksGood t request derivation a) specimen_read.3 (subst (λ (l : LaidTable). ChecksGood (table_of l) request derivation a) (got_one f specimen_read.2) h))

-- ---- the sheet
same_front : (s x : List ℕ) → ((i : ℕ) → i < length s → entry x i ≡ entry s i) → length s ≤ length x → take (length s) x ≡ s
same_front [] x f h = refl
same_front (a ∷ s) [] f h = absurd (omega (arith, h))
same_front (a ∷ s) (b ∷ x) f h = ap (λ (n : ℕ). n ∷ take (length s) x) (f 0 (omega arith)) ∙ ap (λ (l : List ℕ). a ∷ l) (same_front s x (λ i g. f (suc i) (omega (arith, g))) (omega (arith, h)))

filled_front : (s : List ℕ) → Exact specimen.names s → length s ≡ length specimen.names.bindings → (sheet₀ x : List ℕ) → sheet_size ≤ length sheet₀ → SheetFilled specimen.names sheet₀ x → take (length s) x ≡ s
filled_front s ex size sheet₀ x room h =
    same_front s x (λ i g. exact_one specimen.names x s h.exact ex i (omega (arith, g, size))) (omega (arith, size, six, room, h.size))

good_sheet : (s : List ℕ) → Exact specimen.names s → length s ≡ length specimen.names.bindings → {request sheet₀ derivation₀ x v : List ℕ} {a : Decided} → DecidesGood specimen request sheet₀ derivation₀ a x v
    → ((of_decided a).number ≡ 0) ⊎ (10 ≤ (of_decided a).number) → take (length s) x ≡ s
good_sheet s ex size (promise.bad_request f) (inl n) = absurd (omega (arith, n))
good_sheet s ex size (promise.bad_request f) (inr n) = absurd (omega (arith, n))
good_sheet s ex size (promise.room f h) (inl n) = absurd (omega (arith, n))
good_sheet s ex size (promise.room f h) (inr n) = absurd (omega (arith, n))
good_sheet s ex size {sheet₀ = sheet₀} {x = x} (promise.unnamed z f) n = filled_front s ex size sheet₀ x z.room_for_sheet z.filled
good_sheet s ex size {sheet₀ = sheet₀} {x = x} (promise.denied z m h) n = filled_front s ex size sheet₀ x z.room_for_sheet z.filled
good_sheet s ex size {sheet₀ = sheet₀} {x = x} (promise.granted z m h y) n = filled_front s ex size sheet₀ x z.room_for_sheet z.filled
good_sheet s ex size {sheet₀ = sheet₀} {x = x} (promise.overrun z m h y l) n = filled_front s ex size sheet₀ x z.room_for_sheet z.filled

pub sheet_row : (s : List ℕ) → Exact specimen.names s → length s ≡ length specimen.names.bindings → (request sheet₀ derivation₀ x v : List ℕ) (a : Decided) → Decides T request sheet₀ derivation₀ a x v
    → ((of_decided a).number ≡ 0) ⊎ (10 ≤ (of_decided a).number) → take (length s) x ≡ s
sheet_row s ex size request sheet₀ derivation₀ x v a (promise.bad_table f) n = absurd (got_or_bad specimen_read.2 f)
sheet_row s ex size request sheet₀ derivation₀ x v a (promise.good_table f h) n =
    good_sheet s ex size (subst (λ (t : Table). DecidesGood t request sheet₀ derivation₀ a x v) specimen_read.3 (subst (λ (l : LaidTable). DecidesGood (table_of l) request sheet₀ derivation₀ a x v) (got_one f specimen_read.2) h)) n

-- ---- translations
pub translation_row : (table key_table : List ℕ) → Bytes table → ((before : List ℕ) → most_key_table ≤ length before → Answers table before (Ok (length key_table)) (placed before 0 key_table))
    → (before after : List ℕ) (a : Translated) → most_key_table ≤ length before → Answers table before a after → (a ≡ Ok (length key_table)) × (after ≡ placed before 0 key_table)
translation_row table key_table b f before after a r h = translation_one table before b h (f before r)

-- ---- bytes
abbrev small : List ℕ → Bool
small [] = true
small (b ∷ s) = ltb b 256 && small s

both : (a b : Bool) → (a && b) ≡ true → (a ≡ true) × (b ≡ true)
both true b e = (refl, e)
both false b e = let z : ◌≡◌ {A = ℕ} 0 1 = cc e in absurd (omega arith)

at_small : (s : List ℕ) → small s ≡ true → (i : ℕ) → entry s i < 256
at_small [] e i = omega arith
at_small (b ∷ s) e zero = ltb→lt b 256 (subst T' (sym (both (ltb b 256) (small s) e).0) tt)
at_small (b ∷ s) e (suc i) = at_small s (both (ltb b 256) (small s) e).1 i

pub are_bytes : (s : List ℕ) → small s ≡ true → Bytes s
are_bytes s e = record { small = at_small s e }

-- ---- what holds, as the computed check says it
pub judged_holds : (r : Request) (v : Derivation) (d : ℕ) → Holds specimen r v d → holds_at specimen r v ≡ some d
judged_holds r v d h = (the_check_is_right specimen specimen_good.names r v d).1 h

pub judged_not : (r : Request) (v : Derivation) → ((d : ℕ) → Holds specimen r v d → ⊥) → holds_at specimen r v ≡ none
judged_not r v f = go (holds_at specimen r v) refl
  where
    go : (o : Option ℕ) → holds_at specimen r v ≡ o → holds_at specimen r v ≡ none
    go none e = e
    go (some d) e = absurd (f d ((the_check_is_right specimen specimen_good.names r v d).0 e))

-- ---- derivations that can be read
abbrev away : ℕ → List ℕ → Bool
away x [] = true
away x (y ∷ l) = not (eqb y x) && away x l

abbrev apart : List ℕ → Bool
apart [] = true
apart (x ∷ l) = away x l && apart l

abbrev below : ℕ → List ℕ → Bool
below n [] = true
below n (x ∷ l) = ltb x n && below n l

is_away : (x : ℕ) (l : List ℕ) → away x l ≡ true → In l x → ⊥
is_away x [] e h = h
is_away x (y ∷ l) e (inl h) = T_not (eqb y x) (subst T' (sym (both (not (eqb y x)) (away x l) e).0) tt) (subst (λ (z : ℕ). T' (eqb y z)) h (eqb_refl y))
is_away x (y ∷ l) e (inr h) = is_away x l (both (not (eqb y x)) (away x l) e).1 h

is_apart : (l : List ℕ) → apart l ≡ true → NoneTwice l
is_apart [] e = tt
is_apart (x ∷ l) e = (λ h. is_away x l (both (away x l) (apart l) e).0 h, is_apart l (both (away x l) (apart l) e).1)

is_below : (n : ℕ) (l : List ℕ) → below n l ≡ true → (i x : ℕ) → At l i x → x < n
is_below n [] e i x a = absurd (omega (arith, a.there))
is_below n (y ∷ l) e zero x a = subst (λ (z : ℕ). z < n) a.is (ltb→lt y n (subst T' (sym (both (ltb y n) (below n l) e).0) tt))
is_below n (y ∷ l) e (suc i) x a = is_below n l (both (ltb y n) (below n l) e).1 i x (record { there = omega (arith, a.there); is = a.is })

pub read_derivation_lem : (v : Derivation) → length v.bindings ≤ 256 → length v.delegations ≤ 15 → v.access < 256 → apart v.bindings ≡ true → below 256 v.bindings ≡ true → below 512 v.delegations ≡ true
    → length (derivation_bytes v) ≤ 512 → (l : Laid) × (read_derivation (derivation_bytes v) ≡ some l) × (l.derivation ≡ v)
read_derivation_lem v few short access a b c fits =
    derivation_reads v (record { few = few; bindings = is_below 256 v.bindings b; none_twice = is_apart v.bindings a; access = access; short = short; delegations = is_below 512 v.delegations c }) fits
