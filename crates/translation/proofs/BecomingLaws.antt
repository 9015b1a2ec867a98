-- A record of the table, and the keys that it gets.
use mathlib.Core.Path.{◌≡◌, sym, ◌∙◌, ap, subst}
use mathlib.Core.Logic.{◌↔◌}
use mathlib.Core.List.{List}
use Rattle.std.specs.Prelude.{Option, Some, None}
use Prim.Native.Nat.{ℕ, ◌<◌}
use native.Mathlib.Omega.{arith}
use lib.ListN.{length, get_or}
use Rattle.rules.specs.Tables.{Path, to_name, AccessRecord, Delegation}
use Rattle.rules.specs.Ranges.{GoodPath}
use Rattle.rules.specs.Names.{IsSelf, Means}
use Rattle.rules.specs.Following.{InSheet, NameLeads}
use Rattle.rules.specs.declared.Key.{Key}
use Rattle.rules.specs.declared.Space.{Space}
use Rattle.rules.proofs.ListsLaws.{at_one}
use Rattle.rules.proofs.SheetsLaws.{exact_leads}
use Rattle.records.specs.KeyRecords.{key_access_of, key_delegation_of}
use Rattle.records.specs.Paths.{path_of, path_value}
use Rattle.records.specs.declared.paths.Path.{Path as PathValue}
use Rattle.records.specs.declared.accesses.Access.{Access}
use Rattle.records.specs.declared.delegations.Delegation.{Delegation as DelegationValue}
use Rattle.table.specs.ReadTable.{table_at}
use Rattle.sheet.specs.Finds.{Finds, key, nothing}
use Rattle.sheet.proofs.FindsLaws.{own_key, finds_key, finds_none}
use Rattle.sheet.proofs.MeaningLaws.{path_back, index_spaces}
use Rattle.matching.specs.Records.{HoldsAccess, HoldsDelegation}
use Rattle.matching.specs.declared.good.Records.{Records}
use Rattle.translation.specs.Kinds.{access_kind, delegation_kind}
use Rattle.translation.specs.Becoming.{BecomesKeyed, Keyed, becomes, Ready}
use Rattle.translation.specs.Becoming.{nothing as becomes_nothing}

-- ---- what an exact sheet tells
finds_as : {P Q : Key → Type 0} {r : Option Key} → ((k : Key) → P k ↔ Q k) → Finds P r → Finds Q r
finds_as same (key k v) = key k ((same k).0 v)
finds_as same (nothing f) = nothing (λ k w. f k ((same k).1 w))

module _ (g : Records) (sheet : List ℕ) (ready : Ready g sheet) where
  abbrev s : List ℕ
  s = g.table.now

  abbrev keys : List ℕ
  keys = g.lookup.keys.now

  -- What following a name found is what the name means.
  abbrev Leads : Space → Path → Key → Type 0
  Leads = NameLeads (table_at s).names (InSheet (table_at s).names sheet)

  meant : (S T : Space) (p : Path) (v : PathValue) (r : Option Key) → GoodPath p → T ≡ S → v ≡ path_value p → Finds (Leads T (path_of v)) r → Finds (Means (table_at s).names S p) r
  meant S T p v r good e f w =
      finds_as (λ k. exact_leads (table_at s).names g.held.good.names sheet ready.exact (to_name S p) k)
      (subst (λ (q : Path). Finds (Leads S q) r) (ap path_of f ∙ path_back p good.short) (subst (λ (U : Space). Finds (Leads U (path_of v)) r) e w))

  -- A space's key is kept by its number.
  kept_key : (S T : Space) → T ≡ S → S.0 < length (table_at s).names.spaces → IsSelf (table_at s).names.spaces S (record { 0 = get_or keys T.0 0 })
  kept_key S T e h =
      subst (λ (U : Space). IsSelf (table_at s).names.spaces S (record { 0 = get_or keys U.0 0 })) (sym e)
      (own_key (table_at s).names keys g.lookup.packed.now g.held.index S (omega (arith, h, index_spaces (table_at s).names keys g.lookup.packed.now g.held.index)))

  -- ---- access records
  module _ (i : ℕ) (v : Access) (holds : HoldsAccess (table_at s) (length keys) i v) (a : Option Key) (end : Finds (Leads v.owner (path_of v.path)) a) where
    subject_meant : Finds (Means (table_at s).names holds.entry.owner holds.entry.path) a
    subject_meant =
        meant holds.entry.owner v.owner holds.entry.path v.path a (g.held.good.accesses i holds.entry holds.at).path (ap (λ (u : Access). u.owner) holds.is)
        (ap (λ (u : Access). u.path) holds.is) end

    pub access_omitted : a ≡ None → Keyed (BecomesKeyed access_kind s i) key_access_of None
    access_omitted e = becomes_nothing (λ y w.
        finds_none subject_meant e y.subject (subst (λ (u : AccessRecord). Means (table_at s).names u.owner u.path y.subject) (at_one w.at holds.at) w.keys.subject))

    pub access_becomes : (k : Key) → a ≡ Some k
        → Keyed (BecomesKeyed access_kind s i) key_access_of (Some (record { owner = record { 0 = get_or keys v.owner.0 0 }; wanted = v.wanted; subject = k; depth = v.depth }))
    access_becomes k e = becomes (record {
      from = holds.entry;
      at = holds.at;
      keys = record {
        owner = kept_key holds.entry.owner v.owner (ap (λ (u : Access). u.owner) holds.is) (g.held.good.accesses i holds.entry holds.at).owner;
        object = sym (ap (λ (u : Access). u.wanted.object) holds.is);
        right = sym (ap (λ (u : Access). u.wanted.right) holds.is);
        subject = finds_key subject_meant e;
        depth = sym (ap (λ (u : Access). u.depth.0) holds.is);
      };
    })

  -- ---- delegations
  module _ (i : ℕ) (v : DelegationValue) (holds : HoldsDelegation (table_at s) (length keys) i v) (a : Option Key) (named : Finds (Leads v.writer (path_of v.owner)) a) where
    owner_meant : Finds (Means (table_at s).names holds.entry.writer holds.entry.owner_path) a
    owner_meant =
        meant holds.entry.writer v.writer holds.entry.owner_path v.owner a (g.held.good.delegations i holds.entry holds.at).owner_path
        (ap (λ (u : DelegationValue). u.writer) holds.is) (ap (λ (u : DelegationValue). u.owner) holds.is) named

    pub owner_omitted : a ≡ None → Keyed (BecomesKeyed delegation_kind s i) key_delegation_of None
    owner_omitted e = becomes_nothing (λ y w.
        finds_none owner_meant e y.owner (subst (λ (u : Delegation). Means (table_at s).names u.writer u.owner_path y.owner) (at_one w.at holds.at) w.keys.owner))

    module _ (b : Option Key) (end : Finds (Leads v.writer (path_of v.delegatee)) b) where
      delegatee_meant : Finds (Means (table_at s).names holds.entry.writer holds.entry.delegatee_path) b
      delegatee_meant =
          meant holds.entry.writer v.writer holds.entry.delegatee_path v.delegatee b (g.held.good.delegations i holds.entry holds.at).delegatee_path
          (ap (λ (u : DelegationValue). u.writer) holds.is) (ap (λ (u : DelegationValue). u.delegatee) holds.is) end

      pub delegatee_omitted : b ≡ None → Keyed (BecomesKeyed delegation_kind s i) key_delegation_of None
      delegatee_omitted e = becomes_nothing (λ y w.
          finds_none delegatee_meant e y.delegatee
          (subst (λ (u : Delegation). Means (table_at s).names u.writer u.delegatee_path y.delegatee) (at_one w.at holds.at) w.keys.delegatee))

      pub delegation_becomes : (o k : Key) → a ≡ Some o → b ≡ Some k
          → Keyed (BecomesKeyed delegation_kind s i) key_delegation_of (Some (record { writer = record { 0 = get_or keys v.writer.0 0 }; owner = o; wanted = v.wanted; delegatee = k; depth = v.depth }))
      delegation_becomes o k e f = becomes (record {
        from = holds.entry;
        at = holds.at;
        keys = record {
          writer = kept_key holds.entry.writer v.writer (ap (λ (u : DelegationValue). u.writer) holds.is) (g.held.good.delegations i holds.entry holds.at).writer;
          owner = finds_key owner_meant e;
          object = sym (ap (λ (u : DelegationValue). u.wanted.object) holds.is);
          right = sym (ap (λ (u : DelegationValue). u.wanted.right) holds.is);
          delegatee = finds_key delegatee_meant f;
          depth = sym (ap (λ (u : DelegationValue). u.depth.0) holds.is);
        };
      })
