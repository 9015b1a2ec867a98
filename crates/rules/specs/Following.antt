-- Following a path by its first name first, where an account tells which key each binding gives.
use Rattle.std.specs.Prelude.{◌≡◌, ◌⊎◌, List, [], ◌∷◌, ℕ, ◌<◌, length}
use Rattle.rules.specs.Lists.{At}
use Rattle.rules.specs.Tables.{Path, Target, to_key, to_name, Binding, NameTable}
use Rattle.rules.specs.Names.{IsSelf, Opens, TargetMeans}
use Rattle.rules.specs.Sheets.{entry}
use Rattle.rules.specs.declared.Key.{Key}
use Rattle.rules.specs.declared.Space.{Space}

-- Binding number so and so gives this key.
abbrev pub Account : Type 1
Account = ℕ → Key → Type 0

-- What a sheet tells: its entries that are not 0.
pub record InSheet (t : NameTable) (sheet : List ℕ) (i : ℕ) (k : Key) : Type 0 where
  pub there : i < length t.bindings
  pub is : entry sheet i ≡ k.0
  pub some : 0 < k.0

-- From the key `k` the base name `b` leads to the key `k'`.
pub record Leads (t : NameTable) (P : Account) (k : Key) (b : ℕ) (k' : Key) : Type 0 where
  pub space : Space
  pub is_self : IsSelf t.spaces space k
  pub number : ℕ
  pub target : Target
  pub opens : Opens t.bindings space b number target
  pub gives : P number k'

-- From the key `k` the path leads to the key `k'`: it takes its first part's meaning and goes on with one name fewer.
abbrev pub PathLeads : NameTable → Account → Key → Path → Key → Type 0
PathLeads t P k [] k' = k ≡ k'
PathLeads t P k (b ∷ p) k' = (m : Key) × Leads t P k b m × PathLeads t P m p k'

-- The name leads to the key.
pub record NameLeads (t : NameTable) (P : Account) (S : Space) (p : Path) (k : Key) : Type 0 where
  pub start : Key
  pub is_self : IsSelf t.spaces S start
  pub leads : PathLeads t P start p k

abbrev pub TargetLeads : NameTable → Account → Target → Key → Type 0
TargetLeads t P (to_key k') k = k' ≡ k
TargetLeads t P (to_name S p) k = NameLeads t P S p k

-- ---- which bindings a path goes through on the way
-- Asked for the base name `b`, the space with the key `k` opens binding number `i`.
pub record OpensAt (t : NameTable) (k : Key) (b i : ℕ) : Type 0 where
  pub space : Space
  pub is_self : IsSelf t.spaces space k
  pub target : Target
  pub opens : Opens t.bindings space b i target

abbrev pub PathThrough : NameTable → Account → Key → Path → ℕ → Type 0
PathThrough t P k [] i = ⊥
PathThrough t P k (b ∷ p) i = OpensAt t k b i ⊎ ((m : Key) × Leads t P k b m × PathThrough t P m p i)

-- ---- an account of a table's bindings, against the meanings that some bindings `bs` give, all of the table's or a part of them
abbrev pub having : NameTable → List Binding → NameTable
having t bs = record { spaces = t.spaces; bindings = bs }

-- Binding number `i` of the table is among `bs`, and means `k` by these.
pub record MeansBy (t : NameTable) (bs : List Binding) (i : ℕ) (k : Key) : Type 0 where
  pub binding : Binding
  pub at : At t.bindings i binding
  pub number : ℕ
  pub among : At bs number binding
  pub means : TargetMeans (having t bs) binding.target k

-- The account tells nothing but what is meant.
pub record Sound (t : NameTable) (bs : List Binding) (P : Account) : Type 0 where
  pub sound : (i : ℕ) (k : Key) → P i k → MeansBy t bs i k

-- Where the target of one of the bindings leads to a key by the account, the account tells it.
pub record Closed (t : NameTable) (bs : List Binding) (P : Account) : Type 0 where
  pub closed : (j : ℕ) (x : Binding) (k : Key) → At bs j x → TargetLeads t P x.target k → (i : ℕ) × At t.bindings i x × P i k
