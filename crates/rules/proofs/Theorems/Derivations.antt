-- Derivations show grants, and every grant is shown.
use mathlib.Core.Path.{◌≡◌}
use mathlib.Core.Logic.{◌↔◌}
use mathlib.Core.List.{List}
use mathlib.Core.Option.{some}
use Prim.Native.Nat.{ℕ}
use Rattle.rules.specs.Lists.{In}
use Rattle.rules.specs.Tables.{Path, Table, NameTable, Request}
use Rattle.rules.specs.Names.{Means}
use Rattle.rules.specs.Ranges.{GoodNames, Good}
use Rattle.rules.specs.Derivations.{Derivation, only, Holds, Shown}
use Rattle.rules.specs.Verdicts.{granted, Grants, Decides}
use Rattle.rules.specs.Checking.{holds_at}
use Rattle.rules.specs.declared.Key.{Key}
use Rattle.rules.specs.declared.Space.{Space}
use Rattle.rules.proofs.ListedLaws.{only_means, only_more}
use Rattle.rules.proofs.DerivationsLaws.{holds_grants, holds_one}
use Rattle.rules.proofs.CheckingLaws.{check_right}
use Rattle.rules.proofs.GrantsLaws.{grant_shown}

-- Meaning from listed bindings implies meaning.
pub listed_meaning_is_meaning : (t : NameTable) (L : List ℕ) {S : Space} {p : Path} {k : Key} → Means (only t L) S p k → Means t S p k
listed_meaning_is_meaning = only_means

-- More bindings take no meaning away.
pub more_bindings_take_nothing_away : (t : NameTable) (L M : List ℕ) → ((i : ℕ) → In L i → In M i) → {S : Space} {p : Path} {k : Key} → Means (only t L) S p k → Means (only t M) S p k
more_bindings_take_nothing_away = only_more

-- A derivation that holds at d grants d.
pub what_holds_is_granted : (t : Table) (r : Request) (v : Derivation) (d : ℕ) → Holds t r v d → Grants t r d
what_holds_is_granted = holds_grants

-- A derivation holds at one depth.
pub it_holds_at_one_depth : (t : Table) (r : Request) (v : Derivation) (d e : ℕ) → Holds t r v d → Holds t r v e → d ≡ e
it_holds_at_one_depth = holds_one

-- A subject whose greatest depth is d has a derivation that holds at exactly d, with at most 16 chain records, listing no binding that it does not use and none
-- twice.
pub what_is_granted_is_shown : (t : Table) → Good t → (r : Request) (d : ℕ) → Decides t r (granted d) → Shown t r d
what_is_granted_is_shown = grant_shown

-- The computed check accepts exactly the derivations that hold, at exactly their depth.
pub the_check_is_right : (t : Table) → GoodNames t.names → (r : Request) (v : Derivation) (d : ℕ) → (holds_at t r v ≡ some d) ↔ Holds t r v d
the_check_is_right = check_right
