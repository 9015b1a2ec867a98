-- `load_section` judges the count, then reads so many records.
use native.Mathlib.Omega.{arith}
use Rattle.records.specs.Parsed.{found_as}
use Rattle.records.proofs.ParsedLaws.{same_got, same_bad}
use Rattle.table.proofs.LoadingLaws.{besides_passed}
use Rattle.table.proofs.SectionsLaws.{count_few, count_within}
use Rattle.keytable.specs.Keeping.{kept_of}
use Rattle.keytable.proofs.LoadingLaws.{section_fails, records_fail, section_found}
use Rattle.keytable.proofs.loading.load_section.Goals as goal

pub returns-in_err-number-clause-read : goal.returns-in_err-number-clause-read
returns-in_err-number-clause-read g c = (besides_passed (found_as (kept_of _)) _ c.from_residual.ensures.1 (section_fails (g.R.KeyRecord.asked _) _ g.R.KeyRecord.reader _ c.args.places.now _ _ (rw c.MOST.ensures at (same_bad _ c.in_err-number.ensures)))).0

pub returns-in_err-number-clause-kept : goal.returns-in_err-number-clause-kept
returns-in_err-number-clause-kept g c = (section_fails (g.R.KeyRecord.asked _) _ g.R.KeyRecord.reader _ _ _ _ (rw c.MOST.ensures at (same_bad _ c.in_err-number.ensures))).1

pub read_records-requires : goal.read_records-requires
read_records-requires g c =
    let n = count_few _ _ _ _ _ (same_got _ c.in_ok-number.ensures) in
    (omega (arith, n, c.MOST.ensures, c.requires.0), count_within _ _ _ _ _ (same_got _ c.in_ok-number.ensures) c.requires.1, c.requires.2)

pub returns-in_err-kept-clause-read : goal.returns-in_err-kept-clause-read
returns-in_err-kept-clause-read g c = (besides_passed (found_as (kept_of _)) _ c.from_residual-in_err-kept.ensures.1 (records_fail _ _ _ _ c.args.places.now _ _ _ (rw c.MOST.ensures at (same_got _ c.in_ok-number.ensures)) _ c.in_err-kept.ensures.read)).0

pub returns-in_err-kept-clause-kept : goal.returns-in_err-kept-clause-kept
returns-in_err-kept-clause-kept g c = (records_fail _ _ _ _ _ _ _ _ (rw c.MOST.ensures at (same_got _ c.in_ok-number.ensures)) _ c.in_err-kept.ensures.read).1

pub returns-clause-read : goal.returns-clause-read
returns-clause-read g c = (section_found _ _ _ _ _ _ _ _ (rw c.MOST.ensures at (same_got _ c.in_ok-number.ensures)) _ _ c.in_ok-kept.ensures.read c.in_ok-kept.ensures.kept).0

pub returns-clause-kept : goal.returns-clause-kept
returns-clause-kept g c = (section_found _ _ _ _ _ _ _ _ (rw c.MOST.ensures at (same_got _ c.in_ok-number.ensures)) _ _ c.in_ok-kept.ensures.read c.in_ok-kept.ensures.kept).1
