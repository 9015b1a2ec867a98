-- `write_key_delegation` writes the writer's key, and behind it the rest as a key access record, so that they are one write of both.
use native.Mathlib.Omega.{arith}
use Rattle.wire.specs.Number.{bytes_of}
use Rattle.records.specs.KeyRecords.{key_access_bytes}
use Rattle.records.proofs.WritingLaws.{first_room, rest_begins, rest_room, rest_written, rest_ends}
use Rattle.records.proofs.keys.write_key_delegation.Goals as goal

pub write-at-requires : goal.write-at-requires
write-at-requires c = first_room c.args.out.now (bytes_of c.args.given.writer.0) (key_access_bytes (record { owner = c.args.given.owner; object = c.args.given.wanted.object; right = c.args.given.wanted.right; subject = c.args.given.delegatee; depth = c.args.given.depth.0 })) c.requires

pub slice_bounds-write_key_access-count : goal.slice_bounds-write_key_access-count
slice_bounds-write_key_access-count c = rest_begins c.args.out.now (bytes_of c.args.given.writer.0) (key_access_bytes (record { owner = c.args.given.owner; object = c.args.given.wanted.object; right = c.args.given.wanted.right; subject = c.args.given.delegatee; depth = c.args.given.depth.0 })) c.requires _ _ c.write-at.ensures

pub slice_bounds-write_key_access-start : goal.slice_bounds-write_key_access-start
slice_bounds-write_key_access-start c = omega (arith, rest_begins c.args.out.now (bytes_of c.args.given.writer.0) (key_access_bytes (record { owner = c.args.given.owner; object = c.args.given.wanted.object; right = c.args.given.wanted.right; subject = c.args.given.delegatee; depth = c.args.given.depth.0 })) c.requires _ _ c.write-at.ensures)

pub write_key_access-requires : goal.write_key_access-requires
write_key_access-requires c = rest_room c.args.out.now (bytes_of c.args.given.writer.0) (key_access_bytes (record { owner = c.args.given.owner; object = c.args.given.wanted.object; right = c.args.given.wanted.right; subject = c.args.given.delegatee; depth = c.args.given.depth.0 })) c.requires _ _ c.write-at.ensures

pub overflow_add-result : goal.overflow_add-result
overflow_add-result c = omega (arith, rest_ends c.args.out.now (bytes_of c.args.given.writer.0) (key_access_bytes (record { owner = c.args.given.owner; object = c.args.given.wanted.object; right = c.args.given.wanted.right; subject = c.args.given.delegatee; depth = c.args.given.depth.0 })) c.requires _ _ c.write-at.ensures _ c.write_key_access.ensures.0)

pub returns : goal.returns
returns c = rest_written c.args.out.now (bytes_of c.args.given.writer.0) (key_access_bytes (record { owner = c.args.given.owner; object = c.args.given.wanted.object; right = c.args.given.wanted.right; subject = c.args.given.delegatee; depth = c.args.given.depth.0 })) c.requires _ _ c.write-at.ensures _ _ c.write_key_access.ensures
