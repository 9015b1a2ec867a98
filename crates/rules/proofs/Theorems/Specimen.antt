-- P1 to P8 of the specimen table.
use Rattle.rules.specs.Specimen.{rows, AllSay}
use Rattle.rules.proofs.SpecimenLaws.{specimen_rows}

-- Every row of the specimen holds by the rules.
pub the_rows_hold : AllSay rows
the_rows_hold = specimen_rows
