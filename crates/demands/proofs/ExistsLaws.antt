-- Each part has an answer that meets its promise, whatever the bytes.
use mathlib.Core.Path.{◌≡◌, refl, sym, ◌∙◌, ap, subst}
use mathlib.Core.Logic.{◌⊎◌, inl, inr}
use mathlib.Core.Bool.{Bool, true, false, not}
use mathlib.Core.List.{List, [], ◌∷◌, ◌++◌}
use mathlib.Core.Option.{Option, none, some}
use Prim.Native.Nat.{ℕ, zero, suc, ◌<◌, ◌≤◌}
use native.Mathlib.Omega.{arith}
use lib.Dec.{T, leb, leb→le, nleb→lt}
use lib.ListN.{length, drop, length-append, length-drop, get_or-append}
use lib.Seq.{drop-append_seam}
use Rattle.std.specs.Prelude.{Ok, Err}
use Rattle.rules.specs.Tables.{Request, Table}
use Rattle.rules.specs.Ranges.{Good, most_bindings, most_delegations}
use Rattle.rules.specs.Names.{Means, TargetMeans, BindingMeans}
use Rattle.rules.specs.Access.{setting}
use Rattle.rules.specs.Sheets.{entry, Exact}
use Rattle.rules.specs.Rounds.{sheet_of}
use Rattle.rules.specs.KeyTables.{KeyRequest}
use Rattle.rules.specs.Derivations.{Holds, only, Shown}
use Rattle.rules.specs.Checking.{holds_at}
use Rattle.rules.specs.Greatest.{teller}
use Rattle.rules.specs.Translation.{translate}
use Rattle.rules.specs.Verdicts.{Verdict, Has, greatest, nothing, DecidesByKeys}
use Rattle.rules.specs.Verdicts as rule
use Rattle.rules.specs.declared.Key.{Key}
use Rattle.rules.proofs.Theorems.Sheets.{rounds_end_exact}
use Rattle.rules.proofs.Theorems.Derivations.{what_is_granted_is_shown, the_check_is_right}
use Rattle.rules.proofs.Theorems.Translation.{the_function_translates}
use Rattle.rules.proofs.Theorems.Verdicts.{rounds_find_the_greatest, rounds_find_the_greatest_by_keys}
use Rattle.wire.specs.Number.{Bytes}
use Rattle.wire.specs.Placed.{placed}
use Rattle.records.specs.Parsed.{Parsed, got, bad}
use Rattle.records.specs.Requests.{read_request, read_key_request}
use Rattle.records.specs.DerivationBytes.{Laid, read_derivation, derivation_bytes, most_derivation, GoodDerivation}
use Rattle.records.proofs.DerivationForm.{derivation_reads}
use Rattle.records.proofs.ParsedLaws.{some_or_none, some_one}
use Rattle.table.specs.ReadTable.{Laid as LaidTable, table_of, read_table}
use Rattle.table.specs.ReadKeyTable.{KeyLaid, key_table_of, key_table_bytes, read_key_table, most_key_table}
use Rattle.table.proofs.Theorems.{table_form, key_table_form}
use Rattle.checker.specs.Promise.{Checked, ChecksGood, Checks}
use Rattle.checker.specs.Promise as checks
use Rattle.checker.specs.declared.Refusal.TheVariants as not_checked
use Rattle.decision.specs.Promise.{sheet_size, Ready, DecidesGood, Decides, Decided}
use Rattle.decision.specs.Promise as decides
use Rattle.decision.specs.declared.Refusal.TheVariants as undecided
use Rattle.decision.proofs.ListedLaws.{all_below, ordered_below, chain_listed, chain_written}
use Rattle.keytable.specs.Deciding.{KeyAnswer, KeyDecides}
use Rattle.keytable.specs.Deciding as by_keys
use Rattle.translation.specs.Promise.{Translated, Answers}
use Rattle.keytable.specs.declared.KeyRefusal.TheVariants as key_refusal
use Rattle.translation.specs.Promise as answers
use Rattle.translation.specs.declared.Refusal.TheVariants as not_translated
use Rattle.demands.proofs.FewLaws.{few_below}

either : (a b : ℕ) → (a ≤ b) ⊎ (b < a)
either a b = go (leb a b) refl
  where
    go : (x : Bool) → leb a b ≡ x → (a ≤ b) ⊎ (b < a)
    go true e = inl (leb→le a b (subst T (sym e) tt))
    go false e = inr (omega (arith, nleb→lt a b (subst (λ (x : Bool). T (not x)) (sym e) tt)))

-- ---- a derivation that comes with a grant can be written
shown_good : (t : Table) → Good t → (r : Request) (d : ℕ) (x : Shown t r d) → GoodDerivation x.derivation
shown_good t good r d x = record {
  few = omega (arith, few_below (length t.names.bindings) x.derivation.bindings x.holds.none_twice (ordered_below t.names [] x.derivation.bindings x.holds.ordered), good.few_bindings);
  bindings = all_below x.derivation.bindings most_bindings (λ y m. omega (arith, ordered_below t.names [] x.derivation.bindings x.holds.ordered y m, good.few_bindings));
  none_twice = x.holds.none_twice;
  access = omega (arith, chain_listed (Means (only t.names x.derivation.bindings)) t r.asked x.holds.chain, good.few_accesses);
  short = x.short;
  delegations = all_below x.derivation.delegations most_delegations (λ y m. omega (arith, chain_written (Means (only t.names x.derivation.bindings)) t r.asked x.holds.chain y m, good.few_delegations));
}

-- ---- so many first entries of a row
first : ℕ → (ℕ → ℕ) → List ℕ
first zero f = []
first (suc n) f = f 0 ∷ first n (λ i. f (suc i))

first_size : (n : ℕ) (f : ℕ → ℕ) → length (first n f) ≡ n
unfolding first
first_size zero f = refl
first_size (suc n) f = ap suc (first_size n (λ i. f (suc i)))

first_entry : (n : ℕ) (f : ℕ → ℕ) (i : ℕ) → i < n → entry (first n f) i ≡ f i
unfolding first
first_entry zero f i h = absurd (omega arith)
first_entry (suc n) f zero h = refl
first_entry (suc n) f (suc i) h = first_entry n (λ i. f (suc i)) i (omega (arith, h))

-- ---- the decision
module _ (t : Table) (good : Good t) (request sheet₀ derivation₀ : List ℕ) where
  abbrev Some : Type 0
  Some = (a : Decided) × (x : List ℕ) × (v : List ℕ) × DecidesGood t request sheet₀ derivation₀ a x v

  module _ (r : Request) (e : read_request (length t.names.spaces) request ≡ some r) (room_for_sheet : sheet_size ≤ length sheet₀) (room_for_derivation : most_derivation ≤ length derivation₀) where
    head : List ℕ
    head = first (length t.names.bindings) (λ i. entry (sheet_of t.names) i)

    head_size : length head ≡ length t.names.bindings
    unfolding head
    head_size = first_size (length t.names.bindings) (λ i. entry (sheet_of t.names) i)

    filled : List ℕ
    filled = head ++ drop (length t.names.bindings) sheet₀

    small : length t.names.bindings ≤ length sheet₀
    small = omega (arith, good.few_bindings, room_for_sheet)

    same_entry : (i : ℕ) → i < length t.names.bindings → entry filled i ≡ entry (sheet_of t.names) i
    unfolding filled head
    same_entry i h =
        get_or-append head (drop (length t.names.bindings) sheet₀) 0 i (omega (arith, h, head_size)) ∙ first_entry (length t.names.bindings) (λ i. entry (sheet_of t.names) i) i h

    is_exact : Exact t.names filled
    is_exact =
        let w = rounds_end_exact t.names good.names in
        record {
          meant = λ i k m. same_entry i m.at.there ∙ w.meant i k m;
          sound = λ i h f. subst (λ (n : ℕ). BindingMeans t.names i (record { 0 = n })) (sym (same_entry i h)) (w.sound i h (subst (λ (n : ℕ). 0 < n) (same_entry i h) f));
        }

    ready : Ready t request sheet₀ derivation₀ r filled
    unfolding filled
    ready = record {
      accepted = e;
      room_for_sheet = room_for_sheet;
      room_for_derivation = room_for_derivation;
      filled = record {
        size = omega (arith, length-append head (drop (length t.names.bindings) sheet₀), head_size, length-drop (length t.names.bindings) sheet₀, small);
        exact = is_exact;
        past = ap (λ (n : ℕ). drop n (head ++ drop (length t.names.bindings) sheet₀)) (sym head_size) ∙ drop-append_seam head (drop (length t.names.bindings) sheet₀);
      };
    }

    settle : {v : Verdict} → rule.Decides t r v → Some
    settle (rule.means_nothing f) = (Err undecided.Unnamed, filled, derivation₀, decides.unnamed ready f)
    settle (rule.named m (nothing f)) = (Err undecided.Denied, filled, derivation₀, decides.denied ready m (nothing f))
    settle (rule.named m (greatest {d = d} g most)) = write (what_is_granted_is_shown t good r d (rule.named m (greatest g most))) m (greatest g most)
      where
        write : (x : Shown t r d) {k : Key} → TargetMeans t.names r.subject k → Has (setting t r.asked) k (rule.granted d) → Some
        write x m h = go (either (length (derivation_bytes x.derivation)) most_derivation)
          where
            go : (length (derivation_bytes x.derivation) ≤ most_derivation) ⊎ (most_derivation < length (derivation_bytes x.derivation)) → Some
            go (inl fits) =
                let l = derivation_reads x.derivation (shown_good t good r d x) fits in
                (Ok (record { depth = record { 0 = d }; length = length (derivation_bytes x.derivation) }), filled, placed derivation₀ 0 (derivation_bytes x.derivation), decides.granted ready m h (record { shown = x; laid = l.0; read = l.1; same = l.2 }))
            go (inr long) = (Err undecided.Overrun, filled, derivation₀, decides.overrun ready m h x long)

  good_decides : Some
  good_decides = asked (read_request (length t.names.spaces) request) refl
    where
      asked : (o : Option Request) → read_request (length t.names.spaces) request ≡ o → Some
      asked none e = (Err undecided.Request, sheet₀, derivation₀, decides.bad_request e)
      asked (some r) e = sheet (either sheet_size (length sheet₀)) (either most_derivation (length derivation₀))
        where
          sheet : (sheet_size ≤ length sheet₀) ⊎ (length sheet₀ < sheet_size) → (most_derivation ≤ length derivation₀) ⊎ (length derivation₀ < most_derivation) → Some
          sheet (inr h) d = (Err undecided.Room, sheet₀, derivation₀, decides.room e (inl h))
          sheet (inl h) (inr d) = (Err undecided.Room, sheet₀, derivation₀, decides.room e (inr d))
          sheet (inl h) (inl d) = settle r e h d (rounds_find_the_greatest t good r)

pub decides_something : (table request sheet₀ derivation₀ : List ℕ) → Bytes table → (a : Decided) × (x : List ℕ) × (v : List ℕ) × Decides table request sheet₀ derivation₀ a x v
decides_something table request sheet₀ derivation₀ b = go (read_table table) refl
  where
    go : (p : Parsed LaidTable) → read_table table ≡ p → (a : Decided) × (x : List ℕ) × (v : List ℕ) × Decides table request sheet₀ derivation₀ a x v
    go (bad f) e = (Err (undecided.Table f), sheet₀, derivation₀, decides.bad_table e)
    go (got l n) e = let w = good_decides (table_of l) (table_form table l n b e).1 request sheet₀ derivation₀ in (w.0, w.1, w.2, decides.good_table e w.3)

-- ---- the checker
checks_good : (t : Table) → Good t → (request derivation : List ℕ) → (a : Checked) × ChecksGood t request derivation a
checks_good t good request derivation = asked (read_request (length t.names.spaces) request) refl
  where
    asked : (o : Option Request) → read_request (length t.names.spaces) request ≡ o → (a : Checked) × ChecksGood t request derivation a
    asked none e = (Err not_checked.Request, checks.bad_request e)
    asked (some r) e = shown (read_derivation derivation) refl
      where
        shown : (o : Option Laid) → read_derivation derivation ≡ o → (a : Checked) × ChecksGood t request derivation a
        shown none f = (Err not_checked.Derivation, checks.not_derivation e (λ v d g h. some_or_none g f))
        shown (some v) f = held (holds_at t r v.derivation) refl
          where
            held : (o : Option ℕ) → holds_at t r v.derivation ≡ o → (a : Checked) × ChecksGood t request derivation a
            held none z = (
              Err not_checked.Derivation,
              checks.not_derivation e (λ w d g h.
                  some_or_none ((the_check_is_right t good.names r v.derivation d).1 (subst (λ (y : Laid). Holds t r y.derivation d) (some_one g f) h)) z),
            )
            held (some d) z = (Ok (record { 0 = d }), checks.accepted e f ((the_check_is_right t good.names r v.derivation d).0 z))

pub checks_something : (table request derivation : List ℕ) → Bytes table → (a : Checked) × Checks table request derivation a
checks_something table request derivation b = go (read_table table) refl
  where
    go : (p : Parsed LaidTable) → read_table table ≡ p → (a : Checked) × Checks table request derivation a
    go (bad f) e = (Err (not_checked.Table f), checks.bad_table e)
    go (got l n) e = let w = checks_good (table_of l) (table_form table l n b e).1 request derivation in (w.0, checks.good_table e w.1)

-- ---- the translation
pub translates_something : (table before : List ℕ) → Bytes table → (a : Translated) × (x : List ℕ) × Answers table before a x
translates_something table before b = go (read_table table) refl
  where
    go : (p : Parsed LaidTable) → read_table table ≡ p → (a : Translated) × (x : List ℕ) × Answers table before a x
    go (bad f) e = (Err (not_translated.Table f), before, answers.bad_table e)
    go (got l n) e = room (either most_key_table (length before))
      where
        room : (most_key_table ≤ length before) ⊎ (length before < most_key_table) → (a : Translated) × (x : List ℕ) × Answers table before a x
        room (inr h) = (Err not_translated.Room, before, answers.room e h)
        room (inl h) =
            let K = translate (teller (table_of l)) (table_of l) in
            (Ok (length (key_table_bytes K)), placed before 0 (key_table_bytes K), answers.done e h (the_function_translates (table_of l) (table_form table l n b e).1))

-- ---- the decision over a key table
pub key_decides_something : (key_table key_request : List ℕ) → Bytes key_table → (a : KeyAnswer) × KeyDecides key_table key_request a
key_decides_something key_table key_request b = go (read_key_table key_table) refl
  where
    go : (p : Parsed KeyLaid) → read_key_table key_table ≡ p → (a : KeyAnswer) × KeyDecides key_table key_request a
    go (bad f) e = (Err (key_refusal.Table f), by_keys.fault e)
    go (got l n) e = asked (read_key_request key_request) refl
      where
        asked : (o : Option KeyRequest) → read_key_request key_request ≡ o → (a : KeyAnswer) × KeyDecides key_table key_request a
        asked none f = (Err key_refusal.Request, by_keys.request e f)
        asked (some r) f = settle (rounds_find_the_greatest_by_keys (key_table_of l) (λ i x a. ((key_table_form key_table l n b e).1.accesses i x a).depth) r)
          where
            settle : {v : Verdict} → DecidesByKeys (key_table_of l) r v → (a : KeyAnswer) × KeyDecides key_table key_request a
            settle (greatest {d = d} g most) = (Ok (record { 0 = d }), by_keys.granted e f (greatest g most))
            settle (nothing g) = (Err key_refusal.Denied, by_keys.denied e f (nothing g))
