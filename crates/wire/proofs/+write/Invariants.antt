-- `wire::write` meets its contract: the first byte placed, and behind it what the call on the rest places. The number falls.
use Rattle.wire.proofs.+write.Given as goal

abbrev pub decreases-write : goal.decreases-write
decreases-write l = l.value
