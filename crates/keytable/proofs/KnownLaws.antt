-- A key table that was read whole is known: it is good, and the records that are for what is asked stand where it is kept.
use mathlib.Core.Path.{◌≡◌, refl, sym, ap, subst}
use mathlib.Core.List.{List}
use Prim.Native.Nat.{ℕ}
use native.Mathlib.Omega.{arith}
use lib.ListN.{take}
use Rattle.std.specs.Prelude.{Ok, Err}
use Rattle.rules.specs.Ranges.{GoodKeyTable}
use Rattle.rules.specs.Access.{Granted}
use Rattle.rules.specs.Tables.{Asked}
use Rattle.rules.specs.KeyTables.{KeyTable, KeyRequest, key_setting}
use Rattle.rules.specs.Verdicts.{Verdict, Has, greatest, nothing, DecidesByKeys}
use Rattle.rules.specs.declared.Key.{Key}
use Rattle.rules.proofs.AccessLaws.{granted_within}
use Rattle.wire.specs.Number.{Bytes}
use Rattle.records.specs.Parsed.{Parsed, got, bad}
use Rattle.records.specs.KeyRecords.{key_access_record, key_delegation_record}
use Rattle.records.specs.declared.faults.Fault.{Fault}
use Rattle.table.specs.Kept.{IfGood}
use Rattle.table.specs.ReadKeyTable.{KeyLaid, key_table_of, read_key_table}
use Rattle.table.proofs.Theorems.{key_table_form}
use Rattle.keytable.specs.Loading.{key_table_in, key_table_at}
use Rattle.keytable.specs.Keeping.{access_asked, delegation_asked, sift, sifted, asked_of, asked_at, Placed, KeysKept, Known, kept_of, kept_in}
use Rattle.keytable.specs.declared.KeyKept.{KeyKept}
use Rattle.keytable.proofs.MatchingLaws.{asks_all}
use Rattle.keytable.proofs.SiftingLaws.{sift_few, sift_from, sift_to, placed_first}

-- ---- the records that are for what is asked
pub asked_good : (K : KeyTable) (q : Asked Key) → GoodKeyTable K → GoodKeyTable (asked_of K q)
asked_good K q g = record {
  accesses = λ i x a. let r = sift_from (access_asked q) K.accesses i x a in g.accesses r.0 x r.1;
  delegations = λ j x a. let r = sift_from (delegation_asked q) K.delegations j x a in g.delegations r.0 x r.1;
  few_accesses = omega (arith, g.few_accesses, sift_few (access_asked q) K.accesses);
  few_delegations = omega (arith, g.few_delegations, sift_few (delegation_asked q) K.delegations);
}

-- They give the same access as all of them.
module _ (K : KeyTable) (q : Asked Key) where
  asked_within : (k : Key) (d : ℕ) → Granted (key_setting (asked_of K q) q) k d → Granted (key_setting K q) k d
  asked_within k d g =
      granted_within (key_setting (asked_of K q) q) (key_setting K q) (λ d a h. h)
      (λ i d k n x m. let r = sift_from (access_asked q) K.accesses i _ x in (r.0, n, r.1, m))
      (λ j d k k' n x m. let r = sift_from (delegation_asked q) K.delegations j _ x in (r.0, n, r.1, m)) g

  asked_back : (k : Key) (d : ℕ) → Granted (key_setting K q) k d → Granted (key_setting (asked_of K q) q) k d
  asked_back k d g =
      granted_within (key_setting K q) (key_setting (asked_of K q) q) (λ d a h. h)
      (λ i d k n x m. let r = sift_to (access_asked q) K.accesses i _ x (sym (asks_all q q.owner q.object q.right refl refl refl)) in (r.0, n, r.1, m))
      (λ j d k k' n x m. let r = sift_to (delegation_asked q) K.delegations j _ x (sym (asks_all q q.owner q.object q.right refl refl refl)) in (r.0, n, r.1, m)) g

  asked_has : (k : Key) (v : Verdict) → Has (key_setting (asked_of K q) q) k v → Has (key_setting K q) k v
  asked_has k _ (greatest {d = d} g most) = greatest (asked_within k d g) (λ e h. most e (asked_back k e h))
  asked_has k _ (nothing n) = nothing (λ e h. n e (asked_back k e h))

pub asked_decides : (K : KeyTable) (r : KeyRequest) (v : Verdict) → DecidesByKeys (asked_of K r.asked) r v → DecidesByKeys K r v
asked_decides K r v h = asked_has K r.asked r.subject v h

module _ (s : List ℕ) (l : KeyLaid) (end : ℕ) (e : read_key_table s ≡ got l end) where
  pub table_at_lem : key_table_at s ≡ key_table_of l
  unfolding key_table_at
  table_at_lem = ap key_table_in e

  pub table_known : Bytes s → (q : Asked Key) (access_places delegation_places : List ℕ) → KeysKept s q access_places delegation_places l
      → Known s q (take (sifted (access_asked q) l.accesses.records) access_places) (take (sifted (delegation_asked q) l.delegations.records) delegation_places)
  table_known b q access_places delegation_places w = record {
    good = asked_good (key_table_at s) q (subst GoodKeyTable (sym table_at_lem) (key_table_form s l end b e).1);
    accesses = placed_first key_access_record s access_places (sifted (access_asked q) l.accesses.records) (asked_at s q).accesses
        (subst (λ (t : KeyTable). Placed key_access_record s access_places (sifted (access_asked q) l.accesses.records) (sift (access_asked q) t.accesses)) (sym table_at_lem) w.accesses);
    delegations = placed_first key_delegation_record s delegation_places (sifted (delegation_asked q) l.delegations.records) (asked_at s q).delegations
        (subst (λ (t : KeyTable). Placed key_delegation_record s delegation_places (sifted (delegation_asked q) l.delegations.records) (sift (delegation_asked q) t.delegations)) (sym table_at_lem) w.delegations);
  }

-- ---- what code was told of a key table
module _ (q : Asked Key) where
  pub kept_got : (p : Parsed KeyLaid) (k : KeyKept) → Ok k ≡ kept_in q p → (l : KeyLaid) × (end : ℕ) × (p ≡ got l end)
      × (k ≡ record { accesses = kept_of (access_asked q) l.accesses; delegations = kept_of (delegation_asked q) l.delegations })
  kept_got (got l end) k e = (l, end, refl, cc)
  kept_got (bad f) k e = let z : ◌≡◌ {A = ℕ} 0 1 = cc in absurd (omega arith)

  pub kept_bad : (p : Parsed KeyLaid) (e : Fault) → Err e ≡ kept_in q p → p ≡ bad e
  kept_bad (got l end) e h = let z : ◌≡◌ {A = ℕ} 0 1 = cc in absurd (omega arith)
  kept_bad (bad f) e h = let u : f ≡ e = cc in ap bad u

-- The rows of a good one begin with the places that are kept.
pub kept_known : (s : List ℕ) → Bytes s → (q : Asked Key) (access_places delegation_places : List ℕ) (k : KeyKept) → Ok k ≡ kept_in q (read_key_table s)
    → IfGood (read_key_table s) (λ (l : KeyLaid). KeysKept s q access_places delegation_places l) → Known s q (take k.accesses.kept access_places) (take k.delegations.kept delegation_places)
kept_known s b q access_places delegation_places k e w =
    let t = kept_got q (read_key_table s) k e in
    rw t.3 (table_known s t.0 t.1 t.2 b q access_places delegation_places (w t.0 t.1 t.2))
