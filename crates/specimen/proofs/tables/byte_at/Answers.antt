-- The keys of the spaces that it has more, and the bytes of T behind them.
use native.Mathlib.Omega.{arith}
use Rattle.specimen.proofs.TablesLaws.{key_there, byte_there, ended}
use Rattle.specimen.proofs.tables.byte_at.Goals as goal

pub returns-then-at-more : goal.returns-then-at-more
returns-then-at-more c = key_there _ _ (omega arith) (omega arith)

pub returns-then-at-more-2 : goal.returns-then-at-more-2
returns-then-at-more-2 c = rw c.specimen_table-table.ensures (byte_there c.args.more c.args.at (omega arith) (omega arith))

pub returns-else-at-more-2 : goal.returns-else-at-more-2
returns-else-at-more-2 c = ended c.args.more c.args.at (omega arith) (omega arith)
