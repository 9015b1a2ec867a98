-- `go_through` ends: the rest of the path is one name shorter, and as fitting.
use mathlib.Core.Path.{ap}
use native.Mathlib.Omega.{arith}
use Rattle.records.specs.declared.paths.Path.{Path}
use Rattle.sheet.proofs.FindsLaws.{rest_fits}
use Rattle.review.proofs.names.+go_through.Goals as goal

pub go_on-requires : goal.go_on-requires
go_on-requires g t c = c.requires.first

pub rest_of-requires : goal.rest_of-requires
rest_of-requires g t c = omega (arith, c.if-path-eq0.false)

pub go_through-requires : goal.go_through-requires
go_through-requires g t c κs h = (let e = ap (λ (q : Path). q.length) c.rest_of.ensures in omega (arith, e, c.decreases, c.if-path-eq0.false), (λ a m. h a m, rest_fits _ _ c.rest_of.ensures c.requires))
