-- The number is that of the kind.
use Rattle.kernel.proofs.AnswersLaws.{told_fault}
use Rattle.kernel.proofs.answers.of_fault.Goals as goal

pub returns : goal.returns
returns c = told_fault c.args.fault _ c.number_of.ensures
