-- A derivation holds by the rules exactly if the checker's steps find so.
use mathlib.Core.Path.{◌≡◌, refl, ◌∙◌, ap, subst}
use mathlib.Core.Bool.{Bool, true, false}
use mathlib.Core.List.{List}
use mathlib.Core.Option.{some}
use Prim.Native.Nat.{ℕ}
use lib.ListN.{length}
use Rattle.std.specs.Prelude.{Option, Some, None}
use Rattle.rules.specs.Lists.{NoneTwice}
use Rattle.rules.specs.Ranges.{GoodNames}
use Rattle.rules.specs.Tables.{Path, Target, to_name, Asked, Request, Table}
use Rattle.rules.specs.Names.{Means, TargetMeans}
use Rattle.rules.specs.Access.{Name, setting_by}
use Rattle.rules.specs.Following.{InSheet, TargetLeads}
use Rattle.rules.specs.Derivations.{Derivation, only, Ordered, Holds}
use Rattle.rules.specs.Filling.{Filling}
use Rattle.rules.specs.declared.Key.{Key}
use Rattle.rules.specs.declared.Space.{Space}
use Rattle.rules.proofs.NamesLaws.{target_one}
use Rattle.rules.proofs.AccessLaws.{chain_one, table_fixed}
use Rattle.rules.proofs.ListedLaws.{target_only}
use Rattle.rules.proofs.DerivationsLaws.{chain_wider}
use Rattle.rules.proofs.SheetsLaws.{filling_leads}
use Rattle.wire.specs.Number.{Bytes}
use Rattle.records.specs.DerivationBytes.{Laid, read_derivation, parts_of}
use Rattle.records.specs.declared.derivations.Parts.{Parts}
use Rattle.records.proofs.DerivationForm.{derivation_form, derivation_stands}
use Rattle.sheet.specs.Finds.{Finds}
use Rattle.sheet.proofs.FindsLaws.{finds_key, finds_none, leads_one}
use Rattle.matching.specs.Matching.{told, Gives, to, not_given}
use Rattle.matching.specs.declared.Given.{Given}
use Rattle.checker.specs.Walks.{Listed, Enters, all, unordered, EntersAll, Chained, ChainTo, WalksAll}
use Rattle.checker.specs.Promise.{HoldsAs}
use Rattle.matching.proofs.MatchingLaws.{gives_to, gives_none}

-- ---- what was read
module _ (s : List ℕ) (bytes : Bytes s) (parts : Parts) (v : Laid) (e : read_derivation s ≡ some v) (same : parts_of v ≡ parts) where
  pub is_listed : Listed s parts.first parts.bindings v.derivation.bindings
  is_listed = subst (λ (x : Parts). Listed s x.first x.bindings v.derivation.bindings) same (
      let w = derivation_stands s v e in
      record { end = w.middle; reads = w.bindings; size = refl; none_twice = (derivation_form s v bytes e).1.none_twice })

  pub is_chained : Chained s parts.chain parts.delegations v.derivation.access v.derivation.delegations
  is_chained = subst (λ (x : Parts). Chained s x.chain x.delegations v.derivation.access v.derivation.delegations) same (
      let w = derivation_stands s v e in
      record { middle = w.after; first = w.access; end = length s; others = w.delegations; size = refl })

-- ---- the derivation, by a sheet in which the listed bindings are entered
module _ (t : Table) (good : GoodNames t.names) (subject : Target) (q : Asked Space) (v : Derivation) where
  abbrev request : Request
  request = record { subject = subject; asked = q }

  abbrev Held? : Option Given → Type 0
  Held? g = Gives (λ (k : Key) (d : ℕ). Holds t request v d) g

  pub never_ordered : (Ordered t.names v.bindings → ⊥) → Held? None
  never_ordered f = not_given (λ k d h. f h.ordered)

  module _ (sheet : List ℕ) (filling : Filling t.names sheet v.bindings) where
    to_told : (S : Space) (p : Path) (k : Key) → Means (only t.names v.bindings) S p k → told t sheet S p k
    to_told S p k m = (filling_leads t.names good sheet v.bindings filling (to_name S p) k).1 m

    from_told : (S : Space) (p : Path) (k : Key) → told t sheet S p k → Means (only t.names v.bindings) S p k
    from_told S p k m = (filling_leads t.names good sheet v.bindings filling (to_name S p) k).0 m

    -- What a derivation that holds says of the sheet.
    subject_leads : {d : ℕ} (h : Holds t request v d) → TargetLeads t.names (InSheet t.names sheet) subject h.key
    subject_leads h = (filling_leads t.names good sheet v.bindings filling subject h.key).1 h.subject

    chain_leads : {d : ℕ} (h : Holds t request v d) → ChainTo t sheet q v.access v.delegations h.key d
    chain_leads h = record {
      last = h.last;
      chain = chain_wider (Means (only t.names v.bindings)) (told t sheet) t q to_told h.chain;
      leads = to_told h.last.space h.last.path h.key h.meets;
    }

    module _ (a : Option Key) (meant : Finds (TargetLeads t.names (InSheet t.names sheet) subject) a) where
      pub subject_unnamed : a ≡ None → Held? None
      subject_unnamed e = not_given (λ k d h. finds_none meant e h.key (subject_leads h))

      module _ (k : Key) (e : a ≡ Some k) (g : Option Given) (walked : Gives (ChainTo t sheet q v.access v.delegations) g) where
        pub chain_fails : g ≡ None → Held? None
        chain_fails z = not_given (λ m d h. gives_none walked z h.key d (chain_leads h))

        means : TargetMeans (only t.names v.bindings) subject k
        means = (filling_leads t.names good sheet v.bindings filling subject k).0 (finds_key meant e)

        module _ (m : Given) (z : g ≡ Some m) where
          reached : ChainTo t sheet q v.access v.delegations m.to m.depth.0
          reached = gives_to walked z

          pub another_key : (m.to.0 ≡ k.0 → ⊥) → Held? None
          another_key f =
              not_given (λ x b h.
              let w = chain_leads h in
              let n = (chain_one (setting_by (told t sheet) t q) (table_fixed (told t sheet) t q) reached.chain w.chain).0 in
              let o = leads_one t.names good sheet w.last.space w.last.path m.to h.key (subst (λ (y : Name). told t sheet y.space y.path m.to) n reached.leads) w.leads in
              let u = target_one t.names good subject h.key k (target_only t.names v.bindings subject h.key h.subject) (target_only t.names v.bindings subject k means) in
              f (ap (λ (y : Key). y.0) (o ∙ u)))

          pub it_holds : NoneTwice v.bindings → m.to.0 ≡ k.0 → Held? (Some m)
          it_holds twice h = to m (record {
            ordered = filling.ordered;
            none_twice = twice;
            key = k;
            subject = means;
            last = reached.last;
            chain = chain_wider (told t sheet) (Means (only t.names v.bindings)) t q from_told reached.chain;
            meets = from_told reached.last.space reached.last.path k (subst (λ (y : Key). told t sheet reached.last.space reached.last.path y) (λ i. record { 0 = h i }) reached.leads);
          })

-- ---- for every derivation that the bytes hold
module _ (t : Table) (good : GoodNames t.names) (subject : Target) (q : Asked Space) (s : List ℕ) (bytes : Bytes s) (parts : Parts) (sheet : List ℕ) where
  pub not_entered : (b : Bool) → EntersAll t.names s parts.first parts.bindings sheet b → b ≡ false → HoldsAs t subject q s parts None
  not_entered b w f v e same = go (subst (Enters t.names v.derivation.bindings sheet) f (w v.derivation.bindings (is_listed s bytes parts v e same)))
    where
      go : Enters t.names v.derivation.bindings sheet false → Gives (λ (k : Key) (d : ℕ). Holds t (record { subject = subject; asked = q }) v.derivation d) None
      go (unordered f) = never_ordered t good subject q v.derivation f

  module _ (b : Bool) (w : EntersAll t.names s parts.first parts.bindings sheet b) (f : b ≡ true) where
    entered : (v : Laid) → read_derivation s ≡ some v → parts_of v ≡ parts → Filling t.names sheet v.derivation.bindings
    entered v e same = go (subst (Enters t.names v.derivation.bindings sheet) f (w v.derivation.bindings (is_listed s bytes parts v e same)))
      where
        go : Enters t.names v.derivation.bindings sheet true → Filling t.names sheet v.derivation.bindings
        go (all f) = f

    module _ (a : Option Key) (meant : Finds (TargetLeads t.names (InSheet t.names sheet) subject) a) where
      pub not_named : a ≡ None → HoldsAs t subject q s parts None
      not_named n v e same = subject_unnamed t good subject q v.derivation sheet (entered v e same) a meant n

      module _ (k : Key) (n : a ≡ Some k) (g : Option Given) (walks : WalksAll t sheet q s parts.chain parts.delegations g) where
        walked : (v : Laid) → read_derivation s ≡ some v → parts_of v ≡ parts → Gives (ChainTo t sheet q v.derivation.access v.derivation.delegations) g
        walked v e same = walks v.derivation.access v.derivation.delegations (is_chained s bytes parts v e same)

        pub chain_broken : g ≡ None → HoldsAs t subject q s parts None
        chain_broken z v e same = chain_fails t good subject q v.derivation sheet (entered v e same) a meant k n g (walked v e same) z

        module _ (m : Given) (z : g ≡ Some m) where
          pub not_the_subject : (m.to.0 ≡ k.0 → ⊥) → HoldsAs t subject q s parts None
          not_the_subject f v e same = another_key t good subject q v.derivation sheet (entered v e same) a meant k n g (walked v e same) m z f

          pub holds_so : m.to.0 ≡ k.0 → HoldsAs t subject q s parts (Some m)
          holds_so f v e same =
              it_holds t good subject q v.derivation sheet (entered v e same) a meant k n g (walked v e same) m z (is_listed s bytes parts v e same).none_twice f
