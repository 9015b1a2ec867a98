-- `load_records` judges the count, then reads so many records.
use native.Mathlib.Omega.{arith}
use Rattle.records.specs.Parsed.{found_as}
use Rattle.records.proofs.ParsedLaws.{same_got, same_bad}
use Rattle.table.specs.Sections.{section_of}
use Rattle.table.proofs.LoadingLaws.{besides_passed}
use Rattle.table.proofs.SectionsLaws.{count_few, count_within, section_fails, records_fail, section_found}
use Rattle.table.proofs.loading.load_records.Goals as goal

pub returns-in_err-number : goal.returns-in_err-number
returns-in_err-number g c = rw (← c.MOST.ensures) (let both = besides_passed (found_as section_of) _ c.from_residual.ensures.1 (section_fails _ _ _ _ _ _ (same_bad _ c.in_err-number.ensures)) in record { read = both.0; kept = both.1 })

pub read_records-requires : goal.read_records-requires
read_records-requires g c = let n = count_few _ _ _ _ _ (same_got _ c.in_ok-number.ensures) in (omega (arith, n, c.MOST.ensures, c.requires.0), count_within _ _ _ _ _ (same_got _ c.in_ok-number.ensures) c.requires.1, c.requires.2)

pub returns-in_err-at : goal.returns-in_err-at
returns-in_err-at g c = rw (← c.MOST.ensures) (let both = besides_passed (found_as section_of) _ c.from_residual-in_err-at.ensures.1 (records_fail _ _ _ _ _ _ _ (same_got _ c.in_ok-number.ensures) _ c.in_err-at.ensures.read) in record { read = both.0; kept = both.1 })

pub returns : goal.returns
returns g c = rw (← c.MOST.ensures) (let both = section_found _ _ _ _ _ _ _ (same_got _ c.in_ok-number.ensures) _ c.in_ok-at.ensures.read c.in_ok-at.ensures.kept in record { read = both.0; kept = both.1 })
