-- The decision's answers over a good table.
use mathlib.Core.Path.{◌≡◌, sym, ap, subst}
use mathlib.Core.List.{List, []}
use mathlib.Core.Option.{some}
use Prim.Native.Nat.{ℕ, ◌-◌, ◌<◌, ◌≤◌}
use native.Mathlib.Omega.{arith}
use lib.ListN.{length, take, drop, length-drop}
use lib.Seq.{length-take-le, take_all}
use Rattle.std.specs.Prelude.{Option, Some, None, Ok, Err}
use Rattle.rules.specs.Lists.{keep}
use Rattle.rules.specs.Tables.{Path, Target, to_name, Asked, Request, Table}
use Rattle.rules.specs.Depths.{top}
use Rattle.rules.specs.Ranges.{Good, most_bindings, most_delegations}
use Rattle.rules.specs.Names.{Means, TargetMeans}
use Rattle.rules.specs.Following.{InSheet, TargetLeads}
use Rattle.rules.specs.Access.{Name, Meaning, Writes, setting_by, setting, Granted}
use Rattle.rules.specs.Derivations.{Derivation, Holds, NoneIdle, Shown}
use Rattle.rules.specs.Verdicts.{Verdict, Has, greatest, nothing}
use Rattle.rules.specs.Verdicts as verdict
use Rattle.rules.specs.declared.Key.{Key}
use Rattle.rules.specs.declared.Space.{Space}
use Rattle.rules.proofs.SheetsLaws.{exact_leads}
use Rattle.rules.proofs.AccessLaws.{granted_within}
use Rattle.records.specs.Requests.{read_request}
use Rattle.records.specs.DerivationBytes.{derivation_bytes, most_derivation, GoodDerivation}
use Rattle.records.proofs.DerivationForm.{derivation_reads}
use Rattle.sheet.specs.Finds.{Finds}
use Rattle.sheet.specs.Listings.{Filled}
use Rattle.sheet.proofs.FindsLaws.{finds_key, finds_none}
use Rattle.matching.specs.Matching.{told}
use Rattle.marking.specs.Marks.{marked}
use Rattle.marking.specs.Needed.{Listed}
use Rattle.decision.specs.Settling.{SettlesAt}
use Rattle.decision.specs.Showing.{AllWritten}
use Rattle.decision.specs.Writing.{WritesDerivation, bytes, overrun}
use Rattle.decision.specs.Promise.{Decided, sheet_size, Ready, DecidesGood}
use Rattle.decision.specs.Promise as promise
use Rattle.decision.specs.Deciding.{Shows, answer_of, DecidesAs}
use Rattle.decision.specs.declared.Refusal.TheVariants as refusal
use Rattle.decision.specs.declared.settling.Settled.{Settled}
use Rattle.decision.proofs.DerivingLaws.{shown_holds, shown_none_idle}
use Rattle.decision.proofs.ListedLaws.{all_below, keep_few, ordered_below, chain_listed, chain_written, chain_all_written}

-- ---- a meaning that tells the same gives the same
module _ (M N : Meaning) (t : Table) (q : Asked Space) (to : (S : Space) (p : Path) (k : Key) → M S p k → N S p k) where
  writes_so : {j d : ℕ} {k : Key} {n : Name} → Writes M t q j k n d → Writes N t q j k n d
  writes_so w = record { is_self = w.is_self; owner_path = w.owner_path; at = w.at; owner_key = w.owner_key; owner_self = w.owner_self; owner_means = to _ _ _ w.owner_means }

  granted_so : {d : ℕ} {k : Key} → Granted (setting_by M t q) k d → Granted (setting_by N t q) k d
  granted_so g = granted_within (setting_by M t q) (setting_by N t q) (λ d a x. x) (λ i d k n x m. (i, n, x, to n.space n.path k m)) (λ j d k k' n w m. (j, n, writes_so w, to n.space n.path k' m)) g

has_so : (M N : Meaning) (t : Table) (q : Asked Space) → ((S : Space) (p : Path) (k : Key) → M S p k → N S p k) → ((S : Space) (p : Path) (k : Key) → N S p k → M S p k)
    → {k : Key} {v : Verdict} → Has (setting_by M t q) k v → Has (setting_by N t q) k v
has_so M N t q to from (greatest g h) = greatest (granted_so M N t q to g) (λ e x. h e (granted_so N M t q from x))
has_so M N t q to from (nothing f) = nothing (λ e x. f e (granted_so N M t q from x))

-- ---- the chain's part of its array
slice_all : (n : ℕ) (l : List ℕ) → length l ≡ top → take (top - n) (drop n l) ≡ drop n l
slice_all n l e = take_all (top - n) (drop n l) (omega (arith, e, length-drop n l))

-- ---- with the sheet filled
module _ (t : Table) (good : Good t) (sheet₀ sheet order : List ℕ) (n : ℕ) (filled : Filled t.names sheet₀ sheet order n) where
  to_means : (S : Space) (p : Path) (k : Key) → told t sheet S p k → Means t.names S p k
  to_means S p k w = (exact_leads t.names good.names sheet filled.exact (to_name S p) k).0 w

  to_told : (S : Space) (p : Path) (k : Key) → Means t.names S p k → told t sheet S p k
  to_told S p k w = (exact_leads t.names good.names sheet filled.exact (to_name S p) k).1 w

  pub has_means : (q : Asked Space) {k : Key} {v : Verdict} → Has (setting_by (told t sheet) t q) k v → Has (setting t q) k v
  has_means q h = has_so (told t sheet) (Means t.names) t q to_means to_told h

  pub listed_there : Listed t.names sheet (take n order)
  listed_there = record { exact = filled.exact; filling = filled.filling }

  few_filled : n ≤ most_bindings
  few_filled = omega (arith, filled.few, good.few_bindings)

  pub few_listed : n ≤ length order → length (take n order) ≤ most_bindings
  few_listed h = omega (arith, length-take-le n order h, few_filled)

  -- What is settled with a depth is a chain of records.
  module _ (q : Asked Space) (key : Key) (chain : List ℕ) (r : Settled) (settles : SettlesAt t sheet q key chain r) where
    pub access_there : r.access < length t.accesses
    access_there = chain_listed (told t sheet) t q settles.shown.chain

    pub chain_short : length chain ≡ top → length (take (top - r.first) (drop r.first chain)) ≤ top
    chain_short size = omega (arith, ap length (slice_all r.first chain size), size, length-drop r.first chain)

    pub all_written : length chain ≡ top → AllWritten t (take (top - r.first) (drop r.first chain))
    all_written size = subst (AllWritten t) (sym (slice_all r.first chain size)) (chain_all_written (told t sheet) t q settles.shown.chain)

  -- The answers.
  module _ (subject : Target) (q : Asked Space) (derivation₀ : List ℕ) (size : length sheet ≡ length sheet₀) (room_of_sheet : sheet_size ≤ length sheet₀) (room : most_derivation ≤ length derivation₀) where
    abbrev request : Request
    request = record { subject = subject; asked = q }

    ready : (s : List ℕ) → read_request (length t.names.spaces) s ≡ some request → Ready t s sheet₀ derivation₀ request sheet
    ready s e = record { accepted = e; room_for_sheet = room_of_sheet; room_for_derivation = room; filled = record { size = size; exact = filled.exact; past = filled.past } }

    module _ (meant : Option Key) (finds : Finds (TargetLeads t.names (InSheet t.names sheet) subject) meant) where
      pub no_name : meant ≡ None → DecidesAs t subject q sheet₀ derivation₀ (Err refusal.Unnamed) sheet derivation₀
      no_name e s read = promise.unnamed (ready s read) (λ k m. finds_none finds e k ((exact_leads t.names good.names sheet filled.exact subject k).1 m))

      module _ (key : Key) (e : meant ≡ Some key) (chain : List ℕ) where
        means : TargetMeans t.names subject key
        means = (exact_leads t.names good.names sheet filled.exact subject key).0 (finds_key finds e)

        pub no_access : Has (setting_by (told t sheet) t q) key verdict.denied → DecidesAs t subject q sheet₀ derivation₀ (Err refusal.Denied) sheet derivation₀
        no_access h s read = promise.denied (ready s read) means (has_means q h)

        module _ (r : Settled) (settles : SettlesAt t sheet q key chain r) (full : length chain ≡ top) (derivation : List ℕ) (w : Option ℕ)
            (wrote : Shows t subject r.access (take (top - r.first) (drop r.first chain)) (take n order) derivation₀ derivation w) where
          shows : Shows t subject r.access (drop r.first chain) (take n order) derivation₀ derivation w
          shows = subst (λ (c : List ℕ). Shows t subject r.access c (take n order) derivation₀ derivation w) (slice_all r.first chain full) wrote

          abbrev d : ℕ
          d = r.depth.0

          abbrev shown : Derivation
          shown = record { bindings = keep (marked shows.marks) (take n order); access = r.access; delegations = drop r.first chain }

          holds : Holds t request shown d
          holds = shown_holds t good sheet filled.exact (take n order) filled.filling filled.at_rest request r.access (drop r.first chain) shows.marks shows.all key d means settles.shown

          idle : NoneIdle t request shown
          idle = shown_none_idle t good sheet filled.exact (take n order) filled.filling filled.at_rest request r.access (drop r.first chain) shows.marks shows.all

          short : length (drop r.first chain) ≤ top
          short = omega (arith, full, length-drop r.first chain)

          comes : Shown t request d
          comes = record { derivation = shown; holds = holds; none_idle = idle; short = short }

          room_for_listed : n ≤ length order → length shown.bindings ≤ most_bindings
          room_for_listed h = omega (arith, keep_few (marked shows.marks) (take n order), length-take-le n order h, few_filled)

          good_shown : n ≤ length order → GoodDerivation shown
          good_shown h = record {
            few = room_for_listed h;
            bindings = all_below shown.bindings most_bindings (λ x m. omega (arith, ordered_below t.names [] shown.bindings holds.ordered x m, good.few_bindings));
            none_twice = holds.none_twice;
            access = omega (arith, access_there q key chain r settles, good.few_accesses);
            short = short;
            delegations = all_below shown.delegations most_delegations (λ x m. omega (arith, chain_written (told t sheet) t q settles.shown.chain x m, good.few_delegations));
          }

          has : Has (setting t q) key (verdict.granted d)
          has = has_means q settles.has

          pub answers : n ≤ length order → (a : Decided) → a ≡ answer_of r.depth w → DecidesAs t subject q sheet₀ derivation₀ a sheet derivation
          unfolding comes
          answers h a e s read = subst (λ (x : Decided). DecidesGood t s sheet₀ derivation₀ x sheet derivation) (sym e) (go w derivation shows.written)
            where
              go : (w : Option ℕ) (after : List ℕ) → WritesDerivation shown derivation₀ after w → DecidesGood t s sheet₀ derivation₀ (answer_of r.depth w) sheet after
              go (Some m) after (bytes fits same) =
                  let l = derivation_reads shown (good_shown h) fits in
                  subst (λ (x : List ℕ). DecidesGood t s sheet₀ derivation₀ (Ok (record { depth = r.depth; length = length (derivation_bytes shown) })) sheet x) (sym same)
                  (promise.granted (ready s read) means has (record { shown = comes; laid = l.0; read = l.1; same = l.2 }))
              go None after (overrun long same) =
                  subst (λ (x : List ℕ). DecidesGood t s sheet₀ derivation₀ (Err refusal.Overrun) sheet x) (sym same) (promise.overrun (ready s read) means has comes long)
