-- `take_access` raises the code of the subject's node to that of a record that matches.
use mathlib.Core.Path.{◌∙◌, ap}
use Prim.Native.Nat.{suc}
use native.Mathlib.Numerals.{add-one}
use Rattle.keytable.proofs.MatchingLaws.{code_other, code_nobody, code_enough, code_given}
use Rattle.keytable.proofs.matching.take_access.Goals as goal

pub returns-then-not-is_asked : goal.returns-then-not-is_asked
returns-then-not-is_asked c = code_other _ _ _ _ _ c.is_asked.ensures c.if-not-is_asked.true

pub returns-in_default : goal.returns-in_default
returns-in_default c = code_nobody _ _ _ _ _ c.is_asked.ensures _ c.find_node.ensures c.in_default.is

pub returns-then-code-best : goal.returns-then-code-best
returns-then-code-best c = code_enough _ _ _ _ _ c.is_asked.ensures _ c.find_node.ensures _ _ c.in-Some.is (add-one _ ∙ ap suc c.number.ensures) c.requires.0.apart c.if-code-best.true

pub returns : goal.returns
returns c = code_given _ _ _ _ _ c.is_asked.ensures _ c.find_node.ensures _ _ c.in-Some.is (add-one _ ∙ ap suc c.number.ensures) c.if-not-is_asked.false c.if-code-best.false
