-- The record is that of the answer, whose values fit because it is promised.
use Rattle.kernel.proofs.FitsLaws.{key_answer_fits}
use Rattle.kernel.proofs.rustamgheb_decide_by_keys.Goals as goal

pub of_key_answer-requires : goal.of_key_answer-requires
of_key_answer-requires c = key_answer_fits c.decide_by_keys.ensures
