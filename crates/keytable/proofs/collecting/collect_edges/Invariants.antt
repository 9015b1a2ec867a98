-- `collect_edges` goes through the places of the delegations, of which each can be read, and takes each.
use Prim.Native.Nat.{◌≤◌}
use lib.ListN.{take}
use Rattle.keytable.specs.Keeping.{asked_at}
use Rattle.keytable.specs.Matching.{key_request_of, DrawnOf}
use Rattle.keytable.proofs.collecting.collect_edges.Given as goal

abbrev pub invariant-loop-place : goal.invariant-loop-place
invariant-loop-place l = DrawnOf (asked_at l.kept.table.now (key_request_of l.kept.request).asked) (key_request_of l.kept.request).asked l.nodes l.place-index (take l.m l.edges) × (l.m ≤ l.place-index)
