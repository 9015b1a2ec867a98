-- `write_key_access` writes its five numbers one behind the other, so that they are one write of all of them.
use mathlib.Core.Path.{refl, sym, ap}
use Rattle.wire.specs.Number.{bytes_of}
use Rattle.records.proofs.WritingLaws.{five_room₁, five_room₂, five_room₃, five_room₄, five_room₅, five_written}
use mathlib.Core.Path.{sym, ap}
use Rattle.records.proofs.keys.write_key_access.Goals as goal

pub write-at1-requires : goal.write-at1-requires
write-at1-requires c = five_room₁ c.args.out.now (bytes_of c.args.given.owner.0) (bytes_of c.args.given.wanted.object) (bytes_of c.args.given.wanted.right) (bytes_of c.args.given.subject.0) (bytes_of c.args.given.depth.0) _ refl c.requires

pub put-at2-requires : goal.put-at2-requires
put-at2-requires c = five_room₂ c.args.out.now (bytes_of c.args.given.owner.0) (bytes_of c.args.given.wanted.object) (bytes_of c.args.given.wanted.right) (bytes_of c.args.given.subject.0) (bytes_of c.args.given.depth.0) _ refl c.requires _ _ c.write-at1.ensures

pub put-at3-requires : goal.put-at3-requires
put-at3-requires c = five_room₃ c.args.out.now (bytes_of c.args.given.owner.0) (bytes_of c.args.given.wanted.object) (bytes_of c.args.given.wanted.right) (bytes_of c.args.given.subject.0) (bytes_of c.args.given.depth.0) _ refl c.requires _ _ c.write-at1.ensures _ _ c.put-at2.ensures

pub put-at4-requires : goal.put-at4-requires
put-at4-requires c = five_room₄ c.args.out.now (bytes_of c.args.given.owner.0) (bytes_of c.args.given.wanted.object) (bytes_of c.args.given.wanted.right) (bytes_of c.args.given.subject.0) (bytes_of c.args.given.depth.0) _ refl c.requires _ _ c.write-at1.ensures _ _ c.put-at2.ensures _ _ c.put-at3.ensures

pub put-requires : goal.put-requires
put-requires c = let e = ap bytes_of (sym c.number.ensures) in rw e at (five_room₅ c.args.out.now (bytes_of c.args.given.owner.0) (bytes_of c.args.given.wanted.object) (bytes_of c.args.given.wanted.right) (bytes_of c.args.given.subject.0) (bytes_of c.args.given.depth.0) _ refl c.requires _ _ c.write-at1.ensures _ _ c.put-at2.ensures _ _ c.put-at3.ensures _ _ c.put-at4.ensures)

pub returns : goal.returns
returns c = five_written c.args.out.now (bytes_of c.args.given.owner.0) (bytes_of c.args.given.wanted.object) (bytes_of c.args.given.wanted.right) (bytes_of c.args.given.subject.0) (bytes_of c.args.given.depth.0) _ refl c.requires _ _ c.write-at1.ensures _ _ c.put-at2.ensures _ _ c.put-at3.ensures _ _ c.put-at4.ensures _ _ (rw c.number.ensures at c.put.ensures)
