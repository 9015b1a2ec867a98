-- A read puts what it takes from the input behind what came before, which stays.
use Rattle.std.proofs.Common.{◌≡◌, ℕ, ◌+◌, ◌-◌, ◌≤◌, List, ◌++◌, rules, length, take, sym, ap, ◌∙◌, subst, length-take-le}
use Rattle.std.proofs.Math.Seq.{take-append-add}
use Rattle.std.proofs.lemmas.List.{take-append-le}
use Rattle.std.specs.Io.KnownBytes.{Consumes}
use Rattle.std.proofs.KnownBytes.{Consumes-trans}
use borrow.Rule.Slice.PartMut.{put_mid, post_of}
use Rattle.streams.proofs.read_full.Goals as goal

take_put_within : (a k n : ℕ) (xs ys : List ℕ) → a ≤ length xs → n ≤ length ys → take (a + n) (put_mid a k xs ys) ≡ take a xs ++ take n ys
take_put_within a k n xs ys within fits =
    let front = take a xs in
    let after = post_of a k xs in
    ap (λ m. take (m + n) (front ++ (ys ++ after))) (sym (length-take-le a xs within)) ∙ take-append-add front (ys ++ after) n ∙ ap (λ l. front ++ l) (take-append-le n ys after fits)

pub loop-done-preserved : goal.loop-done-preserved
loop-done-preserved g c =
    let from = c.loop-done.done in
    let room = length c.loop-done.buffer - from in
    record {
      kept = search rules;
      within = search rules;
      small = search rules;
      came = subst (Consumes _ _) (sym (take_put_within from room c.in-Ok.more c.loop-done.buffer c.read.new.buf c.loop-done.invariant.within c.in-Ok.ensures.bound.0)) (Consumes-trans _ _ _ _ _ c.loop-done.invariant.came c.in-Ok.ensures.bytes.0);
    }
