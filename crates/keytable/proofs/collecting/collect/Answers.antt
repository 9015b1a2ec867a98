-- `collect` makes the nodes, of which the subject's is the first, and then the codes and the edges between them.
use mathlib.Core.Path.{ap}
use Prim.Native.Nat.{ℕ}
use native.Mathlib.Omega.{arith}
use lib.ListN.{length}
use Rattle.keytable.proofs.CollectingLaws.{all_matched}
use Rattle.keytable.proofs.collecting.collect.Goals as goal

pub collect_codes-requires : goal.collect_codes-requires
collect_codes-requires c = (c.requires.0, c.collect_nodes.ensures.grown.apart, omega (arith, c.collect_nodes.ensures.few, c.requires.2), c.requires.1)

pub returns-clause-matched : goal.returns-clause-matched
returns-clause-matched c = all_matched _ _ c.add.new.self c.collect_nodes.new.nodes (omega (arith, c.add.ensures.few, ap (length {A = ℕ}) c.new-nodes.ensures)) c.add.ensures.has c.collect_nodes.ensures.grown c.collect_nodes.ensures.writers _ _ _ c.collect_codes.new.best (omega (arith, c.collect_nodes.ensures.few, c.requires.2)) c.collect_edges.ensures.drawn c.collect_codes.ensures
