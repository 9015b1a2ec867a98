-- `go_through` ends: the rest of the path is one name shorter, and as fitting.
use Rattle.review.proofs.names.+go_through.Given as goal

abbrev pub decreases-go_through : goal.decreases-go_through
decreases-go_through g l = l.path.length
