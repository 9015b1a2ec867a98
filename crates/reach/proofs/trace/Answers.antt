-- `trace` goes to a greater code with each edge, so the chain has room.
use native.Mathlib.Omega.{arith}
use Rattle.reach.proofs.TracingLaws.{tracing_start, trace_there, trace_ends, room_there, edge_in, number_in, tracing_back}
use Rattle.reach.proofs.trace.Goals as goal

pub loop-v-init : goal.loop-v-init
loop-v-init c = tracing_start _ _ _ _ _ _ _ _ _ _ c.requires.4 c.requires.2

pub bounds-best-v : goal.bounds-best-v
bounds-best-v c = trace_there _ _ _ _ _ _ _ _ _ c.requires.0 c.requires.1 _ _ _ c.loop-v.invariant

pub bounds-start-v : goal.bounds-start-v
bounds-start-v c = omega (arith, trace_there _ _ _ _ _ _ _ _ _ c.requires.0 c.requires.1 _ _ _ c.loop-v.invariant, c.requires.1.risen.size)

pub offset_bounds-by-v : goal.offset_bounds-by-v
offset_bounds-by-v c = omega (arith, trace_there _ _ _ _ _ _ _ _ _ c.requires.0 c.requires.1 _ _ _ c.loop-v.invariant, c.requires.5)

pub bounds-by-v : goal.bounds-by-v
bounds-by-v c = omega (arith, trace_there _ _ _ _ _ _ _ _ _ c.requires.0 c.requires.1 _ _ _ c.loop-v.invariant, c.requires.1.risen.lent.room)

pub overflow_cast-e : goal.overflow_cast-e
overflow_cast-e c = omega (arith, number_in _ _ _ _ _ _ c.requires.0 c.requires.1 _ _ _ c.loop-v.invariant c.loop-v-test.true)

pub overflow_sub-first : goal.overflow_sub-first
overflow_sub-first c = omega (arith, room_there _ _ _ _ _ _ _ _ _ c.requires.0 c.requires.1 _ _ _ c.loop-v.invariant c.loop-v-test.true)

pub offset_bounds-edges-e : goal.offset_bounds-edges-e
offset_bounds-edges-e c = omega (arith, number_in _ _ _ _ _ _ c.requires.0 c.requires.1 _ _ _ c.loop-v.invariant c.loop-v-test.true)

pub bounds-edges-e : goal.bounds-edges-e
bounds-edges-e c = edge_in _ _ _ _ _ _ c.requires.0 c.requires.1 _ _ _ c.loop-v.invariant c.loop-v-test.true

pub bounds-chain-first : goal.bounds-chain-first
bounds-chain-first c = omega (arith, c.loop-v.invariant.low, c.loop-v.invariant.size, room_there _ _ _ _ _ _ _ _ _ c.requires.0 c.requires.1 _ _ _ c.loop-v.invariant c.loop-v-test.true)

pub loop-v-smaller : goal.loop-v-smaller
loop-v-smaller c = omega (arith, room_there _ _ _ _ _ _ _ _ _ c.requires.0 c.requires.1 _ _ _ c.loop-v.invariant c.loop-v-test.true)

pub loop-v-preserved : goal.loop-v-preserved
loop-v-preserved c = tracing_back _ _ _ _ _ _ c.requires.0 c.requires.1 _ _ _ c.loop-v.invariant c.loop-v-test.true _ _ c.number_of.ensures c.from_of-v.ensures

pub offset_bounds-roots-v : goal.offset_bounds-roots-v
offset_bounds-roots-v c = omega (arith, trace_there _ _ _ _ _ _ _ _ _ c.requires.0 c.requires.1 _ _ _ c.loop-v.invariant, c.requires.5)

pub bounds-roots-v : goal.bounds-roots-v
bounds-roots-v c = omega (arith, trace_there _ _ _ _ _ _ _ _ _ c.requires.0 c.requires.1 _ _ _ c.loop-v.invariant, c.requires.3)

pub overflow_cast-result : goal.overflow_cast-result
overflow_cast-result c = omega (arith, (c.type_inv.roots c.loop-v.v).fits)

pub returns : goal.returns
returns c = trace_ends _ _ _ _ _ _ _ _ _ c.requires.0 c.requires.1 _ _ _ c.loop-v.invariant c.loop-v-test.false
