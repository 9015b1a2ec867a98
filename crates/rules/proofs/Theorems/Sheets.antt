-- The name sheet is exact.
use mathlib.Core.Path.{◌≡◌}
use mathlib.Core.Logic.{◌↔◌, ◌⊎◌}
use mathlib.Core.List.{List}
use Prim.Native.Nat.{ℕ, ◌<◌, ◌≤◌}
use lib.ListN.{length}
use Rattle.rules.specs.Tables.{Target, NameTable}
use Rattle.rules.specs.Names.{TargetMeans, BindingMeans}
use Rattle.rules.specs.Ranges.{GoodNames}
use Rattle.rules.specs.Sheets.{entry, Exact}
use Rattle.rules.specs.Following.{Account, Sound, Closed}
use Rattle.rules.specs.Derivations.{only}
use Rattle.rules.specs.Filling.{Filling}
use Rattle.rules.specs.Rounds.{round, sheet_of, empty}
use Rattle.rules.specs.declared.Key.{Key}
use Rattle.rules.proofs.SheetsLaws.{account_exact, exact_one, rest_listed}
use Rattle.rules.proofs.RoundsLaws.{round_fills_or_rests, sheet_ended, sheet_exact}

-- An account of the bindings that is sound and closed is exact.
pub sound_and_closed_is_exact : (t : NameTable) → GoodNames t → (P : Account) → Sound t t.bindings P → Closed t t.bindings P → (i : ℕ) (k : Key) → P i k ↔ BindingMeans t i k
sound_and_closed_is_exact = account_exact

-- An exact sheet is unique.
pub an_exact_sheet_is_one : (t : NameTable) (a b : List ℕ) → Exact t a → Exact t b → (i : ℕ) → i < length t.bindings → entry a i ≡ entry b i
an_exact_sheet_is_one = exact_one

-- A round in place that changes nothing leaves an exact sheet; any other leaves fewer entries at 0.
pub a_round_fills_or_rests : (t : NameTable) → GoodNames t → (sheet L : List ℕ) → length t.bindings ≤ length sheet → Filling t sheet L
    → ((round t sheet ≡ sheet) × Exact t sheet) ⊎ (empty (round t sheet) < empty sheet)
a_round_fills_or_rests = round_fills_or_rests

-- So rounds, until one changes nothing, end in the exact sheet.
pub rounds_end_exact : (t : NameTable) → GoodNames t → Exact t (sheet_of t)
rounds_end_exact = sheet_exact

-- The order in which bindings got their meaning is a listing in which each follows from those before,
pub the_order_is_a_listing : (t : NameTable) → GoodNames t → (L : List ℕ) × Filling t (sheet_of t) L × ((g : Target) (k : Key) → TargetMeans t g k → TargetMeans (only t L) g k)
the_order_is_a_listing t good =
    let e = sheet_ended t good in
    (e.order, e.filling, rest_listed t good (sheet_of t) e.order e.filling e.rest)
