-- `walk_on` takes one step for each delegation of the chain.
use Rattle.table.specs.ReadTable.{table_at}
use Rattle.matching.specs.Matching.{asked_of}
use Rattle.checker.proofs.WalkingLaws.{Walking}
use Rattle.checker.proofs.walking.walk_on.Given as goal

abbrev pub invariant-loop : goal.invariant-loop
invariant-loop l =
    Walking (table_at l.records.table.now) l.sheet (asked_of l.asked.owner l.asked.wanted) l.derivation l.from l.count l.initial.holder.to l.initial.holder.depth.0 l.at l.counter l.holder.to l.holder.depth.0
