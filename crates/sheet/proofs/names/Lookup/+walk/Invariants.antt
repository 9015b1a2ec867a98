-- `walk` finds where the name leads: at its end the key of its space, and else by its first name, from which it goes on with one name fewer.
use Rattle.sheet.proofs.names.Lookup.+walk.Given as goal

abbrev pub decreases-walk : goal.decreases-walk
decreases-walk l = l.path.length
