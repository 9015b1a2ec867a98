-- A good table's translation is a good key table, and there is one.
use mathlib.Core.List.{List}
use Prim.Native.Nat.{ℕ}
use native.Mathlib.Omega.{arith}
use lib.ListN.{length}
use Rattle.rules.specs.Tables.{Path, AccessRecord, Delegation, NameTable, Table}
use Rattle.rules.specs.Ranges.{GoodKey, GoodNames, Good, GoodAccess, GoodDelegation, GoodKeyAccess, GoodKeyDelegation, GoodKeyTable}
use Rattle.rules.specs.Names.{Means, self, bound_to_key, bound_to_name}
use Rattle.rules.specs.KeyTables.{KeyAccess, KeyDelegation, KeyTable}
use Rattle.rules.specs.Translation.{AccessToKeys, DelegationToKeys, Translates}
use Rattle.rules.specs.declared.Key.{Key}
use Rattle.rules.specs.declared.Space.{Space}
use Rattle.rules.proofs.TranslationLaws.{order_from}
use Rattle.rules.proofs.VerdictsLaws.{translates}
use Rattle.table.specs.ReadTable.{table_at}
use Rattle.translation.specs.Becoming.{key_table_at}
use Rattle.translation.proofs.OrderLaws.{order_short}

-- What a name means is a key that a field may hold.
pub means_good : (t : NameTable) → GoodNames t → {S : Space} {p : Path} {k : Key} → Means t S p k → GoodKey k
means_good t good (self {S = S} {k = k} s) = good.keys S k s
means_good t good (bound_to_key {i = i} m s o) = (good.bindings i _ o.at).target
means_good t good (bound_to_name m s o m') = means_good t good m'

module _ (t : Table) (good : Good t) where
  -- ---- what a good record becomes is good
  access_good : (x : AccessRecord) (y : KeyAccess) → GoodAccess (length t.names.spaces) x → AccessToKeys (Means t.names) t x y → GoodKeyAccess y
  access_good x y g w = record {
    owner = good.names.keys x.owner y.owner w.owner;
    object = rw w.object at g.object;
    right = rw w.right at g.right;
    subject = means_good t.names good.names w.subject;
    depth = rw w.depth at g.depth;
  }

  delegation_good : (x : Delegation) (y : KeyDelegation) → GoodDelegation (length t.names.spaces) x → DelegationToKeys (Means t.names) t x y → GoodKeyDelegation y
  delegation_good x y g w = record {
    writer = good.names.keys x.writer y.writer w.writer;
    owner = means_good t.names good.names w.owner;
    object = rw w.object at g.object;
    right = rw w.right at g.right;
    delegatee = means_good t.names good.names w.delegatee;
    depth = rw w.depth at g.depth;
  }

  -- THE TRANSLATION OF A GOOD TABLE IS A GOOD KEY TABLE.
  pub translation_good : (K : KeyTable) → Translates (Means t.names) t K → GoodKeyTable K
  translation_good K tr = record {
    accesses = λ i y a. let w = order_from (AccessToKeys (Means t.names) t) tr.accesses i y a in access_good w.1 y (good.accesses w.0 w.1 w.2) w.3;
    delegations = λ j y a. let w = order_from (DelegationToKeys (Means t.names) t) tr.delegations j y a in delegation_good w.1 y (good.delegations w.0 w.1 w.2) w.3;
    few_accesses = omega (arith, order_short (AccessToKeys (Means t.names) t) tr.accesses, good.few_accesses);
    few_delegations = omega (arith, order_short (DelegationToKeys (Means t.names) t) tr.delegations, good.few_delegations);
  }

-- ---- the key table that good bytes become
module _ (s : List ℕ) (good : Good (table_at s)) where
  pub key_table_translates : Translates (Means (table_at s).names) (table_at s) (key_table_at s)
  unfolding key_table_at
  key_table_translates = translates (table_at s) good

  pub key_table_good : GoodKeyTable (key_table_at s)
  key_table_good = translation_good (table_at s) good (key_table_at s) key_table_translates
