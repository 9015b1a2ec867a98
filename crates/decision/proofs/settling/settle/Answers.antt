-- `settle` gathers what the access records give, raises it along the edges, and traces the chain of the subject's node.
use mathlib.Core.Path.{sym, ◌∙◌}
use Prim.Native.Nat.{◌+◌}
use native.Mathlib.Omega.{arith}
use lib.ListN.{length}
use Rattle.matching.proofs.MatchingLaws.{few_spaces_lem}
use Rattle.decision.proofs.GatheringLaws.{node_fits}
use Rattle.decision.proofs.SettlingLaws.{row_size, row_zeros, given_start, graph_edges, always_node, settles_none, settles_some, some_code, lent_copy, reached_copy}
use Rattle.decision.proofs.settling.settle.Goals as goal

pub give_all-requires : goal.give_all-requires
give_all-requires c =
    let size = row_size (length c.args.records.now.lookup.keys.now) (few_spaces_lem _ _ _ _ _ c.args.records.now.held) in
    (c.requires.0, c.requires.1, size, size, given_start _ _ _ _ _ c.args.records.now.held _ _ _ _ _ (row_zeros (length c.args.records.now.lookup.keys.now + 1) 65))

pub reach-requires : goal.reach-requires
reach-requires c = (graph_edges _ _ _ _ _ c.args.records.now.held _ _ _ _ c.requires.3 _ (omega (arith, c.copy_from_slice.ensures.len, row_size (length c.args.records.now.lookup.keys.now) (few_spaces_lem _ _ _ _ _ c.args.records.now.held))) c.requires.4, lent_copy _ _ _ c.copy_from_slice.ensures.after c.give_all.ensures.codes (omega (arith, c.copy_from_slice.ensures.len, row_size (length c.args.records.now.lookup.keys.now) (few_spaces_lem _ _ _ _ _ c.args.records.now.held))))

pub returns-in_err-v : goal.returns-in_err-v
returns-in_err-v c = absurd (always_node _ _ _ _ _ c.args.records.now.held _ _ _ _ c.requires.3 _ _ _ _ c.give_all.ensures (reached_copy _ _ _ _ _ _ _ c.copy_from_slice.ensures.after c.reach.ensures) _ c.find_node.ensures c.args.chain.now c.in_err-v.was)

pub bounds-best-v : goal.bounds-best-v
bounds-best-v c = omega (arith, node_fits _ _ _ _ _ c.args.records.now.held _ _ _ _ c.find_node.ensures c.in_ok-v.was, c.reach.auto.best, c.copy_from_slice.ensures.len, row_size (length c.args.records.now.lookup.keys.now) (few_spaces_lem _ _ _ _ _ c.args.records.now.held))

pub returns-in_err-depth : goal.returns-in_err-depth
returns-in_err-depth c = rw c.from_residual-in_err-depth.ensures (settles_none _ _ _ _ _ c.args.records.now.held _ _ _ _ c.requires.3 _ _ _ _ c.give_all.ensures (reached_copy _ _ _ _ _ _ _ c.copy_from_slice.ensures.after c.reach.ensures) _ c.find_node.ensures c.args.chain.now _ c.in_ok-v.was (sym c.in_err-depth.was ∙ c.depth_of.ensures))

pub trace-trail-requires : goal.trace-trail-requires
trace-trail-requires c = (graph_edges _ _ _ _ _ c.args.records.now.held _ _ _ _ c.requires.3 _ (omega (arith, c.reach.auto.best, c.copy_from_slice.ensures.len, row_size (length c.args.records.now.lookup.keys.now) (few_spaces_lem _ _ _ _ _ c.args.records.now.held))) c.requires.4, (reached_copy _ _ _ _ _ _ _ c.copy_from_slice.ensures.after c.reach.ensures), some_code _ _ (sym c.in_ok-depth.was ∙ c.depth_of.ensures), omega (arith, c.give_all.auto.roots, c.reach.auto.best, c.copy_from_slice.ensures.len, row_size (length c.args.records.now.lookup.keys.now) (few_spaces_lem _ _ _ _ _ c.args.records.now.held)), c.requires.5, omega (arith, c.reach.auto.best, c.copy_from_slice.ensures.len, row_size (length c.args.records.now.lookup.keys.now) (few_spaces_lem _ _ _ _ _ c.args.records.now.held), few_spaces_lem _ _ _ _ _ c.args.records.now.held))

pub returns : goal.returns
returns c = settles_some _ _ _ _ _ c.args.records.now.held _ _ _ _ c.requires.3 _ _ _ _ c.give_all.ensures (reached_copy _ _ _ _ _ _ _ c.copy_from_slice.ensures.after c.reach.ensures) _ c.find_node.ensures _ _ c.in_ok-v.was _ (sym c.in_ok-depth.was ∙ c.depth_of.ensures) c.trace-trail.ensures
