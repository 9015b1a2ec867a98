-- Names mean at most one key.
use mathlib.Core.Path.{◌≡◌}
use mathlib.Core.Logic.{◌↔◌}
use Prim.Native.Nat.{ℕ}
use Rattle.rules.specs.Tables.{Path, NameTable}
use Rattle.rules.specs.Names.{Means, BindingMeans, LeadsTo}
use Rattle.rules.specs.Ranges.{GoodNames}
use Rattle.rules.specs.Following.{NameLeads}
use Rattle.rules.specs.declared.Key.{Key}
use Rattle.rules.specs.declared.Space.{Space}
use Rattle.rules.proofs.FollowingLaws.{name→means, means→name}
use Rattle.rules.proofs.NamesLaws.{meaning_one, circle_means_nothing}

-- In a good table a name means at most one key.
pub a_name_means_one_key : (t : NameTable) → GoodNames t → {S : Space} {p : Path} {k k' : Key} → Means t S p k → Means t S p k' → k ≡ k'
a_name_means_one_key t good = meaning_one t good

-- A binding that leads back to itself, directly or through others, means nothing.
pub a_circle_means_nothing : (t : NameTable) → GoodNames t → {i : ℕ} {k : Key} → LeadsTo t i i → BindingMeans t i k → ⊥
a_circle_means_nothing t good = circle_means_nothing t good

-- Going by the first name of a path first derives the same meanings as the published rule, which goes by the last.
pub first_name_or_last : (t : NameTable) {S : Space} {p : Path} {k : Key} → NameLeads t (BindingMeans t) S p k ↔ Means t S p k
first_name_or_last t = (name→means t, means→name t)
