-- The rules for access. Access is of a name, to an object of an owner space, for a right, at a depth.
-- They are stated once, over what names there are and mean, what the records say, and which depth is one above another.
use Rattle.std.specs.Prelude.{◌≡◌, List, [], ℕ, suc}
use Rattle.rules.specs.Lists.{At, ◌▷◌}
use Rattle.rules.specs.Depths.{Above, Step}
use Rattle.rules.specs.Tables.{Path, Table, Asked}
use Rattle.rules.specs.Names.{IsSelf, Means}
use Rattle.rules.specs.declared.Key.{Key}
use Rattle.rules.specs.declared.Space.{Space}

-- For one owner, object and right:
pub record Setting : Type 1 where
  pub Name : Type 0
  -- the name means the key;
  pub Means : Name → Key → Type 0
  -- the owner's access record with this number gives the name access at the depth;
  pub Root : ℕ → Name → ℕ → Type 0
  -- the holder of the key wrote the delegation with this number, which is to the name, at the depth;
  pub Wrote : ℕ → Key → Name → ℕ → Type 0
  -- the second depth is one above the first.
  pub Above : ℕ → ℕ → Type 0

-- THE RULES. The holder of the key delegates to the name at the depth.
pub data Delegates (Y : Setting) : Key → Y.Name → ℕ → Type 0 where
  written : {j d : ℕ} {k : Key} {n : Y.Name} → Y.Wrote j k n d → Delegates Y k n d
  -- Lowering: a delegation at d+1 gives one at d.
  lowered : {d : ℕ} {k : Key} {n : Y.Name} → Delegates Y k n (suc d) → Delegates Y k n d

-- The name has access at the depth.
pub data Access (Y : Setting) : Y.Name → ℕ → Type 0 where
  -- Root: owner B's record with path p and depth d gives the name p in B access at d.
  root : {i d : ℕ} {n : Y.Name} → Y.Root i n d → Access Y n d
  -- Delegation: if a name has access at d+1 and means the SELF key of space A, and A wrote a delegation at d for that object and right,
  -- whose owner path in A means B's SELF key, then the delegatee path in A has access at d.
  delegated : {a d : ℕ} {k : Key} {n n' : Y.Name} → Access Y n a → Y.Above d a → Y.Means n k → Delegates Y k n' d → Access Y n' d
  -- Lowering: access at d+1 gives access at d.
  lowered : {d : ℕ} {n : Y.Name} → Access Y n (suc d) → Access Y n d

-- The holder of the key `k` has access at `d`: a name with access at `d` means `k`.
pub record Granted (Y : Setting) (k : Key) (d : ℕ) : Type 0 where
  pub name : Y.Name
  pub access : Access Y name d
  pub means : Y.Means name k

-- A chain: the number of an access record, then numbers of delegations, each written by the one whom the record before is to.
-- It gives its last name access at the depth that is left after every step.
pub data Chain (Y : Setting) : ℕ → List ℕ → Y.Name → ℕ → Type 0 where
  first : {i d : ℕ} {n : Y.Name} → Y.Root i n d → Chain Y i [] n d
  next : {i j a d r : ℕ} {c : List ℕ} {k : Key} {n n' : Y.Name} → Chain Y i c n a → Y.Means n k → Y.Wrote j k n' d → Step a d r → Chain Y i (c ▷ j) n' r

-- ---- the setting of a table, under a meaning of names
pub record Name : Type 0 where
  pub space : Space
  pub path : Path

-- What gives names their keys.
abbrev pub Meaning : Type 1
Meaning = Space → Path → Key → Type 0

-- Record number `i` is the owner's, for the object and right, with the name's path and the depth `d`.
pub record Lists (t : Table) (q : Asked Space) (i : ℕ) (n : Name) (d : ℕ) : Type 0 where
  pub of_owner : n.space ≡ q.owner
  pub at : At t.accesses i (record { owner = q.owner; object = q.object; right = q.right; path = n.path; depth = d })

-- Delegation number `j` was written by the space with the SELF key `k`, for the object and right, at the depth `d`; its owner path there means the
-- owner's SELF key.
pub record Writes (M : Meaning) (t : Table) (q : Asked Space) (j : ℕ) (k : Key) (n : Name) (d : ℕ) : Type 0 where
  pub is_self : IsSelf t.names.spaces n.space k
  pub owner_path : Path
  pub at : At t.delegations j
      (record { writer = n.space; owner_path = owner_path; object = q.object; right = q.right; delegatee_path = n.path; depth = d })
  pub owner_key : Key
  pub owner_self : IsSelf t.names.spaces q.owner owner_key
  pub owner_means : M n.space owner_path owner_key

abbrev pub setting_by : Meaning → Table → Asked Space → Setting
setting_by M t q = record { Name = Name; Means = λ n k. M n.space n.path k; Root = Lists t q; Wrote = Writes M t q; Above = Above }

-- The setting of a table, under the rules for names.
abbrev pub setting : Table → Asked Space → Setting
setting t q = setting_by (Means t.names) t q
