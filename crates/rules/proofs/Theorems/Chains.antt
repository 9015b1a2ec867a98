-- Access is given by chains of records.
use mathlib.Core.Path.{◌≡◌}
use mathlib.Core.Logic.{◌↔◌}
use mathlib.Core.List.{List}
use Prim.Native.Nat.{ℕ, ◌≤◌, ◌+◌}
use lib.ListN.{length}
use Rattle.rules.specs.Depths.{top}
use Rattle.rules.specs.Tables.{Table, Asked}
use Rattle.rules.specs.Ranges.{Good}
use Rattle.rules.specs.Access.{Access, Chain, Name, Meaning, setting_by}
use Rattle.rules.specs.KeyTables.{KeyTable, key_setting}
use Rattle.rules.specs.declared.Key.{Key}
use Rattle.rules.specs.declared.Space.{Space}
use Rattle.rules.proofs.DepthsLaws.{fits}
use Rattle.rules.proofs.AccessLaws.{access_by_chain, chain_one, table_fixed, keys_fixed, table_chain_short}

-- A name has access at d by the four rules exactly if some chain of records gives it d or more,
pub access_is_by_a_chain : (M : Meaning) (t : Table) (q : Asked Space) (n : Name) (d : ℕ)
    → Access (setting_by M t q) n d ↔ ((i : ℕ) × (c : List ℕ) × (r : ℕ) × Chain (setting_by M t q) i c n r × (d ≤ r))
access_is_by_a_chain M t q = access_by_chain (setting_by M t q) fits

-- and so it is in a key table.
pub access_by_keys_is_by_a_chain : (K : KeyTable) (q : Asked Key) (n : Key) (d : ℕ)
    → Access (key_setting K q) n d ↔ ((i : ℕ) × (c : List ℕ) × (r : ℕ) × Chain (key_setting K q) i c n r × (d ≤ r))
access_by_keys_is_by_a_chain K q = access_by_chain (key_setting K q) fits

-- A chain has one depth,
pub a_chain_has_one_depth : (M : Meaning) (t : Table) (q : Asked Space) {i r r' : ℕ} {c : List ℕ} {n n' : Name} → Chain (setting_by M t q) i c n r → Chain (setting_by M t q) i c n' r'
    → (n ≡ n') × (r ≡ r')
a_chain_has_one_depth M t q = chain_one (setting_by M t q) (table_fixed M t q)

-- in a key table too.
pub a_key_chain_has_one_depth : (K : KeyTable) (q : Asked Key) {i r r' : ℕ} {c : List ℕ} {n n' : Key} → Chain (key_setting K q) i c n r → Chain (key_setting K q) i c n' r'
    → (n ≡ n') × (r ≡ r')
a_key_chain_has_one_depth K q = chain_one (key_setting K q) (keys_fixed K q)

-- At most 16 records are ever needed: the access record, and delegations at most as many as depths are left above the chain's.
pub a_chain_is_short : (M : Meaning) (t : Table) → Good t → (q : Asked Space) {i d : ℕ} {c : List ℕ} {n : Name} → Chain (setting_by M t q) i c n d → length c + d ≤ top
a_chain_is_short = table_chain_short
