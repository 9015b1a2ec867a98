-- The sheet that is filled is the table's.
use mathlib.Core.Path.{◌≡◌, sym, ◌∙◌, ap, subst}
use mathlib.Core.List.{List}
use Prim.Native.Nat.{ℕ, ◌≤◌}
use native.Mathlib.Omega.{arith}
use lib.ListN.{length}
use Rattle.std.specs.Prelude.{Result, Ok, Err, IsErrAnd}
use Rattle.std.proofs.lemmas.Result.{err_from_is_err_and}
use Rattle.rules.specs.Sheets.{Exact}
use Rattle.rules.specs.Tables.{Table}
use Rattle.records.specs.declared.faults.Fault.{Fault}
use Rattle.table.specs.ReadTable.{table_of, table_at}
use Rattle.sheet.specs.Listings.{Filled}
use Rattle.sheet.proofs.KnownLaws.{table_at_lem}
use Rattle.sheet.proofs.MeaningLaws.{index_bindings}
use Rattle.matching.specs.Opening.{Opens}
use Rattle.matching.specs.declared.good.Good.{Good}
use Rattle.vectors.specs.Sheets.{SheetOf, entries, fault}

pub sheet_filled : (s : List ℕ) (g : Good) → Opens s (Ok g) → (before sheet order : List ℕ) (n : ℕ) → length g.names.packed.now ≤ length sheet
    → Filled (table_at g.names.table.now).names before sheet order n → SheetOf s sheet (Ok (length g.names.packed.now))
sheet_filled s g (same, (l, end, read)) before sheet order n room f =
    let at : table_at g.names.table.now ≡ table_of l = ap table_at same ∙ table_at_lem s l end read in
    let x : Exact (table_of l).names sheet = subst (λ (t : Table). Exact t.names sheet) at f.exact in
    let count : length l.bindings.records ≡ length g.names.packed.now = sym (ap (λ (t : Table). length t.names.bindings) at) ∙ index_bindings _ _ _ g.names.known.index in
    subst (λ (n : ℕ). SheetOf s sheet (Ok n)) count (entries l end read (omega (arith, count, room)) x)

pub sheet_bad : (s sheet : List ℕ) (r : Result ℕ Fault) (f : Fault) → Opens s (Err f) → IsErrAnd r (λ d. d ≡ f) → SheetOf s sheet r
sheet_bad s sheet r f read h = let q = err_from_is_err_and r h in rw (q.1, q.2) (fault f read)
