-- `mark` marks the binding that the first name opens, and goes on from the key that it gives with one name fewer.
use Rattle.marking.proofs.through.+mark.Given as goal

abbrev pub decreases-mark : goal.decreases-mark
decreases-mark l = l.path.length
