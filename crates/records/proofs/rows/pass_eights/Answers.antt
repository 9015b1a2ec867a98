-- `pass_eights`: those before the next eight are others.
use mathlib.Core.Path.{◌≡◌, sym, ◌∙◌, subst}
use Prim.Native.Nat.{◌*◌, ◌+◌, ◌/◌}
use lib.ListN.{length}
use native.Mathlib.Omega.{arith}
use Rattle.records.specs.Rows.{Passed}
use Rattle.records.proofs.RowsLaws.{passed_start, passed_eight}
use Rattle.records.proofs.rows.pass_eights.Goals as goal

pub loop-k-init : goal.loop-k-init
loop-k-init c = passed_start _ _

pub returns-then-is_near : goal.returns-then-is_near
returns-then-is_near c = c.loop-k.invariant

pub loop-k-preserved : goal.loop-k-preserved
loop-k-preserved c =
    let next : 8 * c.loop-k.k + 8 ≡ 8 * (c.loop-k.k + 1) = omega arith in
    subst (Passed _ _) next (passed_eight _ _ _ (omega (arith, c.loop-k-test.true)) c.loop-k.invariant (sym c.is_near.ensures ∙ c.if-is_near.false))

pub returns : goal.returns
returns c =
    let all : c.loop-k.k ≡ length c.args.row.now / 8 = omega (arith, c.loop-k-test.false, c.loop-k.auto.k-end) in
    subst (λ k. Passed c.args.row.now c.args.number (8 * k)) all c.loop-k.invariant
