-- The fold takes in the bytes of one number behind the other.
use Rattle.std.proofs.Common.{◌≡◌, ◌∙◌, rules}
use Rattle.std.specs.Prelude.{fold}
use Rattle.vectors.specs.Hashes.{hash_start, hash_from, four_bytes}
use Rattle.vectors.proofs.HashesLaws.{hash_numbers}
use Rattle.vectors.proofs.hashes.hash_of_numbers.Goals as goal

pub returns : goal.returns
returns c =
    let folded : c.fold.result ≡ fold (λ h n. hash_from h (four_bytes n)) hash_start c.args.numbers.now = search rules in
    folded ∙ hash_numbers hash_start c.args.numbers.now
