-- The specimen's rows, by computation.
use mathlib.Core.Path.{◌≡◌, refl, sym, ◌∙◌}
use mathlib.Core.List.{List, [], ◌∷◌}
use mathlib.Core.Option.{none, some, bind}
use Prim.Native.Nat.{ℕ}
use native.Mathlib.Omega.{arith}
use Rattle.rules.specs.Names.{opener}
use Rattle.rules.specs.Ranges.{Good}
use Rattle.rules.specs.Rounds.{find, opened, followed, target_key, filled_one, sheet_of}
use Rattle.rules.specs.Translation.{access_keys, delegation_keys}
use Rattle.rules.specs.Greatest.{reached, verdict}
use Rattle.rules.specs.Checking.{entered, root_reach, wrote_reach, name_key, gone_on, holds_at}
use Rattle.rules.specs.Specimen.{specimen, Row, the_sheet, decided, accepted, refused, Says, rows, AllSay}
use Rattle.rules.proofs.GoodLaws.{is_good}
use Rattle.rules.proofs.RoundsLaws.{sheet_exact}
use Rattle.rules.proofs.VerdictsLaws.{verdict_right}
use Rattle.rules.proofs.CheckingLaws.{check_right}

specimen_good : Good specimen
unfolding specimen
specimen_good = is_good specimen refl

-- What is computed for a row.
abbrev Computed : Row → Type 0
Computed (the_sheet s) = sheet_of specimen.names ≡ s
Computed (decided r v) = verdict specimen r ≡ v
Computed (accepted r v d) = holds_at specimen r v ≡ some d
Computed (refused r v) = holds_at specimen r v ≡ none

abbrev AllComputed : List Row → Type 0
AllComputed [] = Unit {0}
AllComputed (x ∷ l) = Computed x × AllComputed l

says : (x : Row) → Computed x → Says x
says (the_sheet s) e = rw e at (sheet_exact specimen.names specimen_good.names)
says (decided r v) e = rw e at (verdict_right specimen specimen_good r)
says (accepted r v d) e = (check_right specimen specimen_good.names r v d).0 e
says (refused r v) e = λ d h. never d (sym e ∙ (check_right specimen specimen_good.names r v d).1 h)
  where
    never : (d : ℕ) → none ≡ some d → ⊥
    never d q = let z : ◌≡◌ {A = ℕ} 0 1 = cc in omega arith

all_say : (l : List Row) → AllComputed l → AllSay l
all_say [] a = tt
all_say (x ∷ l) a = (says x a.0, all_say l a.1)

computed : AllComputed rows
unfolding specimen opener find opened followed target_key filled_one access_keys delegation_keys reached entered root_reach wrote_reach name_key gone_on holds_at bind
computed = (refl, (refl, (refl, (refl, (refl, (refl, (refl, (refl, (refl, (refl, tt))))))))))

-- THE ROWS HOLD.
pub specimen_rows : AllSay rows
specimen_rows = all_say rows computed
