-- The translation's answers over any bytes.
use mathlib.Core.Path.{sym, ◌∙◌, ap, subst, subst₂}
use mathlib.Core.List.{List}
use Prim.Native.Nat.{ℕ, ◌<◌, ◌≤◌}
use lib.ListN.{length}
use Rattle.std.specs.Prelude.{Ok, Err}
use Rattle.rules.specs.Names.{Means}
use Rattle.rules.specs.Tables.{Table}
use Rattle.rules.specs.Translation.{Translates}
use Rattle.records.proofs.WritingLaws.{Wrote}
use Rattle.table.specs.ReadTable.{table_at}
use Rattle.table.specs.ReadKeyTable.{most_key_table, key_table_bytes}
use Rattle.sheet.proofs.KnownLaws.{table_at_lem}
use Rattle.matching.specs.Opening.{Opens}
use Rattle.matching.specs.declared.good.Good.{Good}
use Rattle.translation.specs.Becoming.{key_table_at}
use Rattle.translation.specs.Promise.{Answers, room, done}
use Rattle.translation.specs.declared.Refusal.TheVariants as refusal
use Rattle.translation.proofs.GoodLaws.{key_table_translates}

module _ (s out : List ℕ) (g : Good) (opened : Opens s (Ok g)) where
  pub too_short : length out < most_key_table → Answers s out (Err refusal.Room) out
  too_short h = room opened.1.2 h

  pub table_translated : most_key_table ≤ length out → (n : ℕ) (after : List ℕ) → Wrote out (key_table_bytes (key_table_at g.names.table.now)) n after → Answers s out (Ok n) after
  table_translated h n after w =
      subst₂ (λ (m : ℕ) (x : List ℕ). Answers s out (Ok m) x) (sym w.0) (sym w.1)
      (done opened.1.2 h (subst (λ (t : Table). Translates (Means t.names) t (key_table_at g.names.table.now)) (ap table_at opened.0 ∙ table_at_lem s opened.1.0 opened.1.1 opened.1.2) (key_table_translates g.names.table.now g.held.good)))
