-- `find_binding` finds the packed name first in the row of names, or nowhere.
use Rattle.table.proofs.FindingLaws.{binding_first}
use Rattle.table.proofs.finding.find_binding.Goals as goal

pub returns-clause-found : goal.returns-clause-found
returns-clause-found c = λ l kept. binding_first _ _ _ c.requires.1 l kept _ (rw c.pack.ensures at c.find_first.ensures)
