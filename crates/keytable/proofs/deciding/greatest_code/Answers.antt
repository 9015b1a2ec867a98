-- `greatest_code` collects the records that match, and settles the request by them.
use native.Mathlib.Omega.{arith}
use lib.ListN.{length-take}
use Rattle.keytable.specs.Loading.{key_table_at}
use Rattle.keytable.specs.Matching.{key_request_of}
use Rattle.keytable.proofs.RowsLaws.{all_empty}
use Rattle.keytable.proofs.KnownLaws.{asked_decides}
use Rattle.keytable.proofs.SettlingLaws.{matched_edges}
use Rattle.keytable.proofs.deciding.greatest_code.Goals as goal

pub collect-m-requires : goal.collect-m-requires
collect-m-requires c = (c.requires, all_empty 513, omega arith, omega arith)

pub first_code-requires : goal.first_code-requires
first_code-requires c = (
  matched_edges _ _ _ _ c.collect-m.ensures.matched (omega (arith, c.collect-m.ensures.few, length-take c.collect-m.result c.collect-m.new.edges)),
  c.collect-m.ensures.matched.given.codes,
  omega arith,
)

pub returns : goal.returns
returns c = record { decides = asked_decides (key_table_at c.args.kept.now.table.now) (key_request_of c.args.kept.now.request) _ (c.first_code.ensures.verdict _ _ c.collect-m.ensures.matched); most = c.first_code.ensures.most }
