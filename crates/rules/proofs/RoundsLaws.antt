-- Rounds in place, until one changes nothing, end in the exact sheet.
use mathlib.Core.Path.{◌≡◌, refl, sym, ◌∙◌, ap, subst}
use mathlib.Core.Logic.{◌⊎◌, inl, inr, ◌↔◌}
use mathlib.Core.Bool.{Bool, true, false, ◌&&◌, false≢true}
use mathlib.Core.List.{List, [], ◌∷◌}
use mathlib.Core.Option.{Option, none, some, bind, bind-eq-some_iff, map-eq-some_iff}
use Prim.Native.Nat.{ℕ, zero, suc, ◌<◌, ◌≤◌, zero-le, suc-le-suc}
use native.Mathlib.Nat.{not-suc-le-zero, le_of_suc-le-suc, zero-lt-suc, le_refl}
use native.Mathlib.Omega.{arith}
use native.Mathlib.Decide.{ℕ_discrete}
use borrow.Author.Tests.{eqb-true, eq-eqb}
use lib.Dec.{eqb}
use lib.ListN.{length, get_or, get_elem?, set, replicate, length-set, length-replicate, get_or-replicate}
use lib.Seq.{get_or-set_same, set-get_or}
use Rattle.rules.specs.Lists.{At, ◌▷◌}
use Rattle.rules.specs.Tables.{Path, Target, to_key, to_name, Binding, NameTable}
use Rattle.rules.specs.Names.{IsSelf, opener, Opens}
use Rattle.rules.specs.Ranges.{GoodNames}
use Rattle.rules.specs.Sheets.{entry, Exact}
use Rattle.rules.specs.Following.{InSheet, Leads, PathLeads, TargetLeads}
use Rattle.rules.specs.Filling.{Filling, AtRest}
use Rattle.rules.specs.Rounds.{find, has_key, is_for, key_of, opened, followed, target_key, filled_one, round_to, round, rounds, sheet_of, empty}
use Rattle.rules.specs.declared.Key.{Key}
use Rattle.rules.specs.declared.Space.{Space}
use Rattle.rules.proofs.ListsLaws.{at_head, at_tail, at_one, at_get_or, some_at, at_some, in_last}
use Rattle.rules.proofs.NamesLaws.{opens_one}
use Rattle.rules.proofs.SheetsLaws.{filling_start, filling_step, rest_exact}

-- ---- finding
module _ {ℓ} {A : Type ℓ} (f : A → Bool) where
  -- What is found passes the test.
  pub find_passes : (l : List A) (i : ℕ) → find f l ≡ some i → (x : A) × At l i x × (f x ≡ true)
  unfolding find
  find_passes [] i e = let z : ◌≡◌ {A = ℕ} 0 1 = cc in absurd (omega arith)
  find_passes (x ∷ l) i e = go (f x) refl (λ j h. find_passes l j h)
    where
      later : (j : ℕ) → suc j ≡ i → (y : A) × At l j y × (f y ≡ true) → (y : A) × At (x ∷ l) i y × (f y ≡ true)
      later j h r = (r.0, subst (λ (m : ℕ). At (x ∷ l) m r.0) h (at_tail r.1), r.2)

      go : (b : Bool) → f x ≡ b → ((j : ℕ) → find f l ≡ some j → (y : A) × At l j y × (f y ≡ true)) → (y : A) × At (x ∷ l) i y × (f y ≡ true)
      go true q ih = let h : 0 ≡ i = cc (rw q at e) in (x, rw (← h) at_head, q)
      go false q ih =
          let m = (map-eq-some_iff suc (find f l)).0 (rw q at e) in
          later m.0 m.2 (ih m.0 m.1)

  -- Something is found where something passes.
  pub passes_find : (l : List A) (i : ℕ) (x : A) → At l i x → f x ≡ true → (j : ℕ) × (find f l ≡ some j)
  unfolding find
  passes_find [] i x a e = absurd (not-suc-le-zero a.there)
  passes_find (y ∷ l) i x a e = go (f y) refl i a (λ j b. passes_find l j x b e)
    where
      go : (b : Bool) → f y ≡ b → (i : ℕ) → At (y ∷ l) i x → ((j : ℕ) → At l j x → (m : ℕ) × (find f l ≡ some m)) → (m : ℕ) × (find f (y ∷ l) ≡ some m)
      go true q i a ih = (0, rw (q, find))
      go false q zero a ih = absurd (false≢true (sym q ∙ ap f a.is ∙ e))
      go false q (suc i) a ih = let r = ih i (record { there = le_of_suc-le-suc a.there; is = a.is }) in (suc r.0, rw (q, find, r.1))

both : (a b : Bool) → a && b ≡ true → (a ≡ true) × (b ≡ true)
both true b e = (refl, e)
both false b e = absurd (false≢true e)

both_pass : {a b : Bool} → a ≡ true → b ≡ true → a && b ≡ true
both_pass p q = rw p q

-- An entry that is not 0 is its own key.
key_of_some : (n : ℕ) (k : Key) → (key_of n ≡ some k) ↔ ((n ≡ k.0) × (0 < k.0))
key_of_some zero k = (λ e. let z : ◌≡◌ {A = ℕ} 0 1 = cc in absurd (omega arith), λ h. absurd (omega (arith, h.0, h.1)))
key_of_some (suc n) k = (λ e. let q : record { 0 = suc n } ≡ k = cc in (ap (λ (y : Key). y.0) q, rw (← q) (zero-lt-suc n)), λ h. ap some (λ d. record { 0 = h.0 d }))

-- ---- the space that has a key, and the binding that a space opens for a base name, are found
pub space_hit : (t : NameTable) (k : Key) (s : ℕ) → find (has_key k) t.spaces ≡ some s → IsSelf t.spaces (record { 0 = s }) k
space_hit t k s e =
    let r = find_passes (has_key k) t.spaces s e in
    let q = eqb-true r.0.0 k.0 r.2 in
    record { at = subst (λ (y : Key). At t.spaces s y) (λ d. record { 0 = q d }) r.1 }

pub binding_hit : (t : NameTable) (T : Space) (b i : ℕ) → find (is_for T b) t.bindings ≡ some i → (g : Target) × Opens t.bindings T b i g
binding_hit t T b i e = go (find_passes (is_for T b) t.bindings i e)
  where
    go : (x : Binding) × At t.bindings i x × (is_for T b x ≡ true) → (g : Target) × Opens t.bindings T b i g
    go r =
        let w = both (eqb r.0.space.0 (opener T b).0) (eqb r.0.base b) r.2 in
        let p = eqb-true r.0.space.0 (opener T b).0 w.0 in
        let q = eqb-true r.0.base b w.1 in
        let u : r.0 ≡ record { space = opener T b; base = b; target = r.0.target } = λ d. record { space = record { 0 = p d }; base = q d; target = r.0.target } in
        (r.0.target, record { at = subst (λ (y : Binding). At t.bindings i y) u r.1 })

module _ (t : NameTable) (good : GoodNames t) where
  pub space_found : (S : Space) (k : Key) → IsSelf t.spaces S k → find (has_key k) t.spaces ≡ some S.0
  space_found S k h = go (passes_find (has_key k) t.spaces S.0 k h.at (eq-eqb k.0 k.0 refl))
    where
      go : (j : ℕ) × (find (has_key k) t.spaces ≡ some j) → find (has_key k) t.spaces ≡ some S.0
      go r = r.1 ∙ ap some (ap (λ (T : Space). T.0) (good.keys_apart (record { 0 = r.0 }) S k (space_hit t k r.0 r.1) h))

  pub binding_found : (T : Space) (b i : ℕ) (g : Target) → Opens t.bindings T b i g → find (is_for T b) t.bindings ≡ some i
  binding_found T b i g o =
      go (passes_find (is_for T b) t.bindings i (record { space = opener T b; base = b; target = g }) o.at (both_pass (eq-eqb (opener T b).0 (opener T b).0 refl) (eq-eqb b b refl)))
    where
      go : (j : ℕ) × (find (is_for T b) t.bindings ≡ some j) → find (is_for T b) t.bindings ≡ some i
      go r = r.1 ∙ ap some (opens_one t good (binding_hit t T b r.0 r.1).1 o).0

  -- ---- following by a sheet finds where its entries lead
  module _ (sheet : List ℕ) where
    pub opened_leads : (k : Key) (b : ℕ) (k' : Key) → (opened t sheet k b ≡ some k') ↔ Leads t (InSheet t sheet) k b k'
    unfolding opened
    opened_leads k b k' = (to, from)
      where
        to : opened t sheet k b ≡ some k' → Leads t (InSheet t sheet) k b k'
        to e = first ((bind-eq-some_iff (find (has_key k) t.spaces) _).0 e)
          where
            second : (s i : ℕ) → find (has_key k) t.spaces ≡ some s → find (is_for (record { 0 = s }) b) t.bindings ≡ some i → key_of (entry sheet i) ≡ some k' → Leads t (InSheet t sheet) k b k'
            second s i f g h =
                let o = binding_hit t (record { 0 = s }) b i g in
                let w = (key_of_some (entry sheet i) k').0 h in
                record {
                  space = record { 0 = s };
                  is_self = space_hit t k s f;
                  number = i;
                  target = o.0;
                  opens = o.1;
                  gives = record { there = o.1.at.there; is = w.0; some = w.1 };
                }

            first : (s : ℕ) × (find (has_key k) t.spaces ≡ some s) × (bind (find (is_for (record { 0 = s }) b) t.bindings) (λ i. key_of (entry sheet i)) ≡ some k') → Leads t (InSheet t sheet) k b k'
            first r =
                let w = (bind-eq-some_iff (find (is_for (record { 0 = r.0 }) b) t.bindings) (λ i. key_of (entry sheet i))).0 r.2 in
                second r.0 w.0 r.1 w.1 w.2

        from : Leads t (InSheet t sheet) k b k' → opened t sheet k b ≡ some k'
        from o = (bind-eq-some_iff (find (has_key k) t.spaces) _).1 (
          o.space.0,
          space_found o.space k o.is_self,
          (bind-eq-some_iff (find (is_for o.space b) t.bindings) (λ i. key_of (entry sheet i))).1 (
            o.number,
            binding_found o.space b o.number o.target o.opens,
            (key_of_some (entry sheet o.number) k').1 (o.gives.is, o.gives.some),
          ),
        )

    pub followed_leads : (p : Path) (k k' : Key) → (followed t sheet k p ≡ some k') ↔ PathLeads t (InSheet t sheet) k p k'
    unfolding followed
    followed_leads [] k k' = (λ e. cc, λ e. ap some e)
    followed_leads (b ∷ p) k k' = (
      λ e. let r = (bind-eq-some_iff (opened t sheet k b) (λ m. followed t sheet m p)).0 e in (r.0, (opened_leads k b r.0).0 r.1, (followed_leads p r.0 k').0 r.2),
      λ f. (bind-eq-some_iff (opened t sheet k b) (λ m. followed t sheet m p)).1 (f.0, (opened_leads k b f.0).1 f.1, (followed_leads p f.0 k').1 f.2),
    )

    pub target_leads : (g : Target) (k : Key) → (target_key t sheet g ≡ some k) ↔ TargetLeads t (InSheet t sheet) g k
    unfolding target_key
    target_leads (to_key x) k = (λ e. cc, λ e. ap some e)
    target_leads (to_name S p) k = (
      λ e.
          let r = (bind-eq-some_iff (get_elem? t.spaces S.0) (λ k. followed t sheet k p)).0 e in
          record { start = r.0; is_self = record { at = some_at t.spaces S.0 r.0 r.1 }; leads = (followed_leads p r.0 k).0 r.2 },
      λ v. (bind-eq-some_iff (get_elem? t.spaces S.0) (λ k. followed t sheet k p)).1 (v.start, at_some v.is_self.at, (followed_leads p v.start k).1 v.leads),
    )

    -- ---- one entry
    value_at : ℕ → Option Key
    value_at i = bind (get_elem? t.bindings i) (λ x. target_key t sheet x.target)

    value_leads : (i : ℕ) (x : Binding) (k : Key) → At t.bindings i x → (value_at i ≡ some k) ↔ TargetLeads t (InSheet t sheet) x.target k
    unfolding value_at
    value_leads i x k a = (
      λ e.
          let r = (bind-eq-some_iff (get_elem? t.bindings i) (λ x. target_key t sheet x.target)).0 e in
          let q : r.0 ≡ x = at_one (some_at t.bindings i r.0 r.1) a in
          (target_leads x.target k).0 (subst (λ (y : Binding). target_key t sheet y.target ≡ some k) q r.2),
      λ v. (bind-eq-some_iff (get_elem? t.bindings i) (λ x. target_key t sheet x.target)).1 (x, at_some a, (target_leads x.target k).1 v),
    )

-- ---- how many entries are 0
pub empty_set : (l : List ℕ) (i v : ℕ) → i < length l → entry l i ≡ 0 → 0 < v → suc (empty (set l i v)) ≡ empty l
empty_set [] i v h e p = absurd (not-suc-le-zero h)
empty_set (x ∷ xs) zero zero h e p = absurd (not-suc-le-zero p)
empty_set (zero ∷ xs) zero (suc v) h e p = refl
empty_set (suc x ∷ xs) zero (suc v) h e p = absurd (omega arith)
empty_set (zero ∷ xs) (suc i) v h e p = ap suc (empty_set xs i v (le_of_suc-le-suc h) e p)
empty_set (suc x ∷ xs) (suc i) v h e p = empty_set xs i v (le_of_suc-le-suc h) e p

pub empty_le : (l : List ℕ) → empty l ≤ length l
empty_le [] = zero-le
empty_le (zero ∷ xs) = suc-le-suc (empty_le xs)
empty_le (suc x ∷ xs) = omega (arith, empty_le xs)

pub none_empty : (l : List ℕ) (i : ℕ) → i < length l → empty l ≡ 0 → entry l i ≡ 0 → ⊥
none_empty [] i h z e = not-suc-le-zero h
none_empty (zero ∷ xs) i h z e = omega arith
none_empty (suc x ∷ xs) zero h z e = omega arith
none_empty (suc x ∷ xs) (suc i) h z e = none_empty xs i (le_of_suc-le-suc h) z e

-- ---- a round
-- Entry `i` could not be filled.
abbrev pub Quiet : NameTable → List ℕ → ℕ → Type 0
Quiet t sheet i = entry sheet i ≡ 0 → (x : Binding) (k : Key) → At t.bindings i x → TargetLeads t (InSheet t sheet) x.target k → ⊥

-- From `start`, over the first `j` bindings, to `now`: nothing changed and none of them could be filled, or fewer entries are 0.
abbrev pub Went : NameTable → List ℕ → List ℕ → ℕ → Type 0
Went t start now j = ((now ≡ start) × ((i : ℕ) → i < j → Quiet t start i)) ⊎ (empty now < empty start)

pub went_on : (t : NameTable) (start now later : List ℕ) (j : ℕ) → Went t start now j → ((later ≡ now) × Quiet t now j) ⊎ (empty later < empty now) → Went t start later (suc j)
went_on t start now later j (inl a) (inl b) = inl (b.0 ∙ a.0, λ i l. go i l (ℕ_discrete i j))
  where
    go : (i : ℕ) → i < suc j → Dec (i ≡ j) → Quiet t start i
    go i l (yes e) = rw e (subst (λ (s : List ℕ). Quiet t s j) a.0 b.1)
    go i l (no e) = a.1 i (omega arith)
went_on t start now later j (inl a) (inr b) = inr (subst (λ (s : List ℕ). empty later < empty s) a.0 b)
went_on t start now later j (inr a) (inl b) = inr (subst (λ (s : List ℕ). empty s < empty start) (sym b.0) a)
went_on t start now later j (inr a) (inr b) = inr (omega arith)

-- A round that changed nothing leaves the sheet at rest.
pub quiet_rest : (t : NameTable) (sheet : List ℕ) → ((i : ℕ) → i < length t.bindings → Quiet t sheet i) → AtRest t sheet
quiet_rest t sheet q = record { at_rest = λ i x k a e v. q i a.there e x k a v }

module _ (t : NameTable) (good : GoodNames t) where
  -- A sheet with a list of its filled entries.
  pub record Listed (sheet : List ℕ) : Type 0 where
    pub order : List ℕ
    pub filling : Filling t sheet order

  -- What filling one entry does.
  record Filled (sheet : List ℕ) (i : ℕ) : Type 0 where
    pub listed : Listed (filled_one t sheet i)
    pub went : ((filled_one t sheet i ≡ sheet) × Quiet t sheet i) ⊎ (empty (filled_one t sheet i) < empty sheet)

  fill_one : (sheet : List ℕ) (i : ℕ) → i < length t.bindings → i < length sheet → Listed sheet → Filled sheet i
  unfolding filled_one value_at
  fill_one sheet i h fits l = go (entry sheet i) refl (value_at t good sheet i) refl
    where
      x : Binding
      x = get_or t.bindings i (record { space = record { 0 = 0 }; base = 0; target = to_key (record { 0 = 0 }) })

      at : At t.bindings i x
      at = at_get_or t.bindings i _ h

      -- the entry is as it was
      stays : filled_one t sheet i ≡ sheet → Quiet t sheet i → Filled sheet i
      stays e q = record { listed = subst (λ (s : List ℕ). Listed s) (sym e) l; went = inl (e, q) }

      go : (n : ℕ) → entry sheet i ≡ n → (o : Option Key) → value_at t good sheet i ≡ o → Filled sheet i
      go (suc n) e o f = stays (rw e (rw (← e) (set-get_or sheet i 0))) (λ z. absurd (omega arith))
      go zero e none f = stays (rw (e, f) (rw (← e) (set-get_or sheet i 0)))
          (λ z y k a v. let q : ◌≡◌ {A = Option Key} none (some k) = sym f ∙ (value_leads t good sheet i y k a).1 v in let w : ◌≡◌ {A = ℕ} 0 1 = cc in absurd (omega arith))
      go zero e (some k) f =
          let v = (value_leads t good sheet i x k at).0 f in
          let s = filling_step t good sheet l.order l.filling i x k at fits e v in
          let p : 0 < k.0 = rw (get_or-set_same sheet i k.0 0 fits) at (s.filled i (in_last l.order i)) in
          record {
            listed = rw (e, f) record { order = l.order ▷ i; filling = s };
            went = inr (rw (e, f) (omega (arith, empty_set sheet i k.0 fits e p)));
          }

  fill_one_length : (sheet : List ℕ) (i : ℕ) → length (filled_one t sheet i) ≡ length sheet
  unfolding filled_one
  fill_one_length sheet i = length-set sheet i _

  round_to_length : (sheet : List ℕ) (j : ℕ) → length (round_to t sheet j) ≡ length sheet
  round_to_length sheet zero = refl
  round_to_length sheet (suc j) = fill_one_length (round_to t sheet j) j ∙ round_to_length sheet j

  -- What a round does.
  record Rounded (sheet : List ℕ) (j : ℕ) : Type 0 where
    pub listed : Listed (round_to t sheet j)
    pub went : Went t sheet (round_to t sheet j) j

  round_to_lem : (sheet : List ℕ) → length t.bindings ≤ length sheet → Listed sheet → (j : ℕ) → j ≤ length t.bindings → Rounded sheet j
  round_to_lem sheet fits l zero h = record { listed = l; went = inl (refl, λ i b. absurd (not-suc-le-zero b)) }
  round_to_lem sheet fits l (suc j) h =
      let r = round_to_lem sheet fits l j (omega arith) in
      let f = fill_one (round_to t sheet j) j h (omega (arith, round_to_length sheet j)) r.listed in
      record { listed = f.listed; went = went_on t sheet (round_to t sheet j) (filled_one t (round_to t sheet j) j) j r.went f.went }

  -- A round that changes nothing leaves an exact sheet; any other leaves fewer entries at 0.
  pub round_fills_or_rests : (sheet L : List ℕ) → length t.bindings ≤ length sheet → Filling t sheet L → ((round t sheet ≡ sheet) × Exact t sheet) ⊎ (empty (round t sheet) < empty sheet)
  round_fills_or_rests sheet L fits f = go (round_to_lem sheet fits (record { order = L; filling = f }) (length t.bindings) (le_refl _)).went
    where
      go : Went t sheet (round t sheet) (length t.bindings) → ((round t sheet ≡ sheet) × Exact t sheet) ⊎ (empty (round t sheet) < empty sheet)
      go (inl a) = inl (a.0, rest_exact t good sheet L f (quiet_rest t sheet a.1))
      go (inr a) = inr a

  rounds_stay : (m : ℕ) (sheet : List ℕ) → round t sheet ≡ sheet → rounds t m sheet ≡ sheet
  rounds_stay zero sheet e = refl
  rounds_stay (suc m) sheet e = rw e (rounds_stay m sheet e)

  -- Rounds end at rest, and list what they filled.
  pub record Ended (sheet : List ℕ) : Type 0 where
    pub order : List ℕ
    pub filling : Filling t sheet order
    pub rest : AtRest t sheet

  rounds_end : (m : ℕ) (sheet : List ℕ) → length t.bindings ≤ length sheet → Listed sheet → empty sheet ≤ m → Ended (rounds t m sheet)
  rounds_end zero sheet fits l h = record {
    order = l.order;
    filling = l.filling;
    rest = record { at_rest = λ i x k a e v. none_empty sheet i (omega (arith, a.there)) (omega arith) e };
  }
  rounds_end (suc m) sheet fits l h =
      let r = round_to_lem sheet fits l (length t.bindings) (le_refl _) in
      go r.went r.listed (λ b. rounds_end m (round t sheet) (rw (round_to_length sheet (length t.bindings)) fits) r.listed b)
    where
      go : Went t sheet (round t sheet) (length t.bindings) → Listed (round t sheet) → (empty (round t sheet) ≤ m → Ended (rounds t m (round t sheet)))
          → Ended (rounds t m (round t sheet))
      go (inl a) w k = rw (a.0, rounds_stay m sheet a.0) record { order = l.order; filling = l.filling; rest = quiet_rest t sheet a.1 }
      go (inr a) w k = k (omega arith)

  -- THE ROUNDS END IN THE EXACT SHEET, and its order lists every meaning.
  pub sheet_ended : Ended (sheet_of t)
  sheet_ended =
      let n = length t.bindings in
      let z : List ℕ = replicate n 0 in
      let l : length z ≡ n = length-replicate {A = ℕ} n 0 in
      rounds_end n z (omega (arith, l)) (record { order = []; filling = filling_start t z (λ i h. get_or-replicate {A = ℕ} n i 0 0 h) }) (omega (arith, empty_le z, l))

  pub sheet_exact : Exact t (sheet_of t)
  sheet_exact = rest_exact t good (sheet_of t) sheet_ended.order sheet_ended.filling sheet_ended.rest
