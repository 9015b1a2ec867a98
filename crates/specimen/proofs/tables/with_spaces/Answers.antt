-- Each byte is made by its place.
use lib.ListN.{get_or}
use Rattle.std.proofs.Common.{rules}
use Rattle.specimen.specs.Tables.{T_with_spaces}
use Rattle.specimen.proofs.TablesLaws.{made_by_place}
use Rattle.specimen.proofs.tables.with_spaces.Goals as goal

pub returns : goal.returns
returns o c i h = made_by_place _ _ (λ i. get_or (T_with_spaces c.args.more) i 0) (λ i y q k. search rules) _ _ c.from_fn.ensures.items i 0 h
