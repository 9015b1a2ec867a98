-- The decision over a key table: what is answered, as the reviewer's list has it.
use Rattle.std.specs.Prelude.{◌≡◌, List, ℕ, Result, Ok, Err}
use Rattle.std.proofs.Math.Option.{none, some}
use Rattle.rules.specs.KeyTables.{KeyRequest}
use Rattle.rules.specs.Verdicts as verdicts
use Rattle.rules.specs.Verdicts.{DecidesByKeys}
use Rattle.rules.specs.declared.Depth.{Depth}
use Rattle.records.specs.Parsed.{got, bad}
use Rattle.records.specs.Requests.{read_key_request}
use Rattle.records.specs.declared.faults.Fault.{Fault}
use Rattle.table.specs.ReadKeyTable.{KeyLaid, key_table_of, read_key_table}
use Rattle.keytable.specs.declared.KeyRefusal.{KeyRefusal}
use Rattle.keytable.specs.declared.KeyRefusal.TheVariants as refusal

-- What is answered: the depth that is granted, or why none is.
abbrev pub KeyAnswer : Type 0
KeyAnswer = Result Depth KeyRefusal

-- THE KEY DECISION, over the bytes of a key table and of a key request, in the order of the list.
pub data KeyDecides (table request : List ℕ) : KeyAnswer → Type 0 where
  -- 1 to 4, 6 and 7: the key table's fault, Long before all others, and else the first in reading order, with its place.
  fault : {e : Fault} → read_key_table table ≡ bad e → KeyDecides table request (Err (refusal.Table e))
  -- 8, Request: any fault in the request's bytes.
  request : {l : KeyLaid} {end : ℕ} → read_key_table table ≡ got l end → read_key_request request ≡ none → KeyDecides table request (Err refusal.Request)
  -- 11, Denied: the key rules give the subject no access.
  denied : {l : KeyLaid} {end : ℕ} {r : KeyRequest} → read_key_table table ≡ got l end → read_key_request request ≡ some r → DecidesByKeys (key_table_of l) r verdicts.denied
      → KeyDecides table request (Err refusal.Denied)
  -- 0, Granted: the key rules give the subject access, and this is the greatest depth.
  granted : {l : KeyLaid} {end : ℕ} {r : KeyRequest} {d : Depth} → read_key_table table ≡ got l end → read_key_request request ≡ some r
      → DecidesByKeys (key_table_of l) r (verdicts.granted d.0) → KeyDecides table request (Ok d)
