-- Key tables: every name replaced by its key, and no rules for names.
use Rattle.std.specs.Prelude.{◌≡◌, List, ℕ}
use Rattle.rules.specs.Lists.{At}
use Rattle.rules.specs.Depths.{Above}
use Rattle.rules.specs.Tables.{Asked}
use Rattle.rules.specs.Access.{Setting}
use Rattle.rules.specs.declared.Key.{Key}

pub record KeyAccess : Type 0 where
  pub owner : Key
  pub object : ℕ
  pub right : ℕ
  pub subject : Key
  pub depth : ℕ

pub record KeyDelegation : Type 0 where
  pub writer : Key
  pub owner : Key
  pub object : ℕ
  pub right : ℕ
  pub delegatee : Key
  pub depth : ℕ

pub record KeyTable : Type 0 where
  pub accesses : List KeyAccess
  pub delegations : List KeyDelegation

pub record KeyRequest : Type 0 where
  pub subject : Key
  pub asked : Asked Key

-- The setting of a key table: the names are the keys, and each means itself.
abbrev pub key_setting : KeyTable → Asked Key → Setting
key_setting K q = record {
  Name = Key;
  Means = λ n k. n ≡ k;
  Root = λ i n d. At K.accesses i (record { owner = q.owner; object = q.object; right = q.right; subject = n; depth = d });
  Wrote = λ j k n d.
      At K.delegations j (record { writer = k; owner = q.owner; object = q.object; right = q.right; delegatee = n; depth = d });
  Above = Above;
}
