-- `draw_all` takes one delegation after the other.
use Prim.Native.Nat.{◌≤◌}
use lib.ListN.{take}
use Rattle.table.specs.ReadTable.{table_at}
use Rattle.matching.specs.Matching.{asked_of}
use Rattle.decision.specs.Gathering.{DrawnSo}
use Rattle.decision.proofs.gathering.draw_all.Given as goal

abbrev pub invariant-loop-j : goal.invariant-loop-j
invariant-loop-j l = DrawnSo (table_at l.records.table.now) l.sheet (asked_of l.asked.owner l.asked.wanted) l.subject l.j (take l.m l.edges) × (l.m ≤ l.j)
