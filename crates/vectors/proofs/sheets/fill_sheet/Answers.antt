-- The sheet that is filled over the table's names is the table's, and its fault is passed on.
use native.Mathlib.Omega.{arith}
use Rattle.vectors.proofs.SheetsLaws.{sheet_filled, sheet_bad}
use Rattle.vectors.proofs.sheets.fill_sheet.Goals as goal

pub returns-in_err-names : goal.returns-in_err-names
returns-in_err-names c = sheet_bad _ _ _ _ c.in_err-names.ensures c.from_residual.ensures.1

pub returns : goal.returns
returns c = sheet_filled _ c.in_ok-names.field-0 c.in_ok-names.ensures _ _ _ _ (omega (arith, c.requires, c.in_ok-names.field-0.names.known.few_bindings)) c.fill.ensures
