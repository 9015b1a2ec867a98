-- `open`: what `load_index` keeps of a good table is what is known of it.
use native.Mathlib.Omega.{arith}
use Rattle.matching.proofs.HeldLaws.{read_table_lem, few_spaces_read, few_accesses_read, few_delegations_read, known_read, held_read}
use Rattle.matching.proofs.opening.Rows.open.Goals as goal

pub shared_ref_as_front-result : goal.shared_ref_as_front-result
shared_ref_as_front-result c = omega (arith, few_spaces_read c.args.table.now (record { small = λ i. omega (arith, c.type_inv.table i) }) _ (read_table_lem _ _ c.in_ok-sections.ensures.read))

pub shared_ref_as_front-result-3 : goal.shared_ref_as_front-result-3
shared_ref_as_front-result-3 c = omega (arith, few_accesses_read c.args.table.now (record { small = λ i. omega (arith, c.type_inv.table i) }) _ (read_table_lem _ _ c.in_ok-sections.ensures.read))

pub shared_ref_as_front-result-4 : goal.shared_ref_as_front-result-4
shared_ref_as_front-result-4 c = omega (arith, few_delegations_read c.args.table.now (record { small = λ i. omega (arith, c.type_inv.table i) }) _ (read_table_lem _ _ c.in_ok-sections.ensures.read))

pub invariant_of-result : goal.invariant_of-result
invariant_of-result c = record { known = known_read c.args.table.now (record { small = λ i. omega (arith, c.type_inv.table i) }) _ (read_table_lem _ _ c.in_ok-sections.ensures.read) _ _ _ _ _ c.in_ok-sections.ensures.kept (omega arith) }

pub invariant_of-result-2 : goal.invariant_of-result-2
invariant_of-result-2 c = record { held = held_read c.args.table.now (record { small = λ i. omega (arith, c.type_inv.table i) }) _ (read_table_lem _ _ c.in_ok-sections.ensures.read) _ _ _ _ _ c.in_ok-sections.ensures.kept (omega arith) (omega arith) (omega arith) }
