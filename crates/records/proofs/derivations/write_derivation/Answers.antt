-- `write_derivation` writes its five pieces one behind the other, so that they are one write of all of them.
use Prim.Native.Nat.{◌+◌}
use native.Mathlib.Omega.{arith}
use lib.ListN.{length}
use Rattle.wire.specs.Number.{bytes_of}
use Rattle.records.specs.Many.{many_bytes}
use Rattle.records.proofs.DerivationBytesLaws.{pieces}
use Rattle.records.proofs.WritingLaws.{five_room₁, five_room₂, five_room₃, five_room₄, five_room₅, five_written}
use Rattle.records.proofs.derivations.write_derivation.Goals as goal

pub overflow_cast-bindings : goal.overflow_cast-bindings
overflow_cast-bindings c = omega (arith, c.requires.0)

pub write-at1-requires : goal.write-at1-requires
write-at1-requires c = five_room₁ c.args.out.now (bytes_of (length c.args.bindings.now)) (many_bytes bytes_of c.args.bindings.now) (bytes_of (length c.args.delegations.now + 1)) (bytes_of c.args.access) (many_bytes bytes_of c.args.delegations.now) _ (pieces c.args.bindings.now c.args.access c.args.delegations.now) c.requires.2

pub put_numbers-at2-requires : goal.put_numbers-at2-requires
put_numbers-at2-requires c = five_room₂ c.args.out.now (bytes_of (length c.args.bindings.now)) (many_bytes bytes_of c.args.bindings.now) (bytes_of (length c.args.delegations.now + 1)) (bytes_of c.args.access) (many_bytes bytes_of c.args.delegations.now) _ (pieces c.args.bindings.now c.args.access c.args.delegations.now) c.requires.2 _ _ c.write-at1.ensures

pub overflow_cast-delegations : goal.overflow_cast-delegations
overflow_cast-delegations c = omega (arith, c.requires.1)

pub overflow_add-delegations : goal.overflow_add-delegations
overflow_add-delegations c = omega (arith, c.requires.1)

pub put-at3-requires : goal.put-at3-requires
put-at3-requires c = five_room₃ c.args.out.now (bytes_of (length c.args.bindings.now)) (many_bytes bytes_of c.args.bindings.now) (bytes_of (length c.args.delegations.now + 1)) (bytes_of c.args.access) (many_bytes bytes_of c.args.delegations.now) _ (pieces c.args.bindings.now c.args.access c.args.delegations.now) c.requires.2 _ _ c.write-at1.ensures _ _ c.put_numbers-at2.ensures

pub put-at4-requires : goal.put-at4-requires
put-at4-requires c = five_room₄ c.args.out.now (bytes_of (length c.args.bindings.now)) (many_bytes bytes_of c.args.bindings.now) (bytes_of (length c.args.delegations.now + 1)) (bytes_of c.args.access) (many_bytes bytes_of c.args.delegations.now) _ (pieces c.args.bindings.now c.args.access c.args.delegations.now) c.requires.2 _ _ c.write-at1.ensures _ _ c.put_numbers-at2.ensures _ _ c.put-at3.ensures

pub put_numbers-requires : goal.put_numbers-requires
put_numbers-requires c = five_room₅ c.args.out.now (bytes_of (length c.args.bindings.now)) (many_bytes bytes_of c.args.bindings.now) (bytes_of (length c.args.delegations.now + 1)) (bytes_of c.args.access) (many_bytes bytes_of c.args.delegations.now) _ (pieces c.args.bindings.now c.args.access c.args.delegations.now) c.requires.2 _ _ c.write-at1.ensures _ _ c.put_numbers-at2.ensures _ _ c.put-at3.ensures _ _ c.put-at4.ensures

pub returns : goal.returns
returns c = five_written c.args.out.now (bytes_of (length c.args.bindings.now)) (many_bytes bytes_of c.args.bindings.now) (bytes_of (length c.args.delegations.now + 1)) (bytes_of c.args.access) (many_bytes bytes_of c.args.delegations.now) _ (pieces c.args.bindings.now c.args.access c.args.delegations.now) c.requires.2 _ _ c.write-at1.ensures _ _ c.put_numbers-at2.ensures _ _ c.put-at3.ensures _ _ c.put-at4.ensures _ _ c.put_numbers.ensures
