-- The numbers of the answer line of each kind of case, by what its bytes hold.
use Rattle.std.specs.Prelude.{List, ℕ, suc, length}
use Rattle.std.proofs.Math.Option.{Option, none, some}
use Rattle.rules.specs.KeyTables.{KeyRequest}
use Rattle.records.specs.DerivationBytes as derivation
use Rattle.records.specs.Parsed.{Parsed, got, bad}
use Rattle.records.specs.Requests.{read_request}
use Rattle.records.specs.declared.faults.Fault.{Fault}
use Rattle.table.specs.ReadKeyTable.{KeyLaid}
use Rattle.table.specs.ReadTable as table
use Rattle.kernel.specs.Answers.{done, fault_number, wrong_request, not_a_derivation}
use Rattle.vectors.specs.declared.lines.Line.{Line}
use Rattle.vectors.specs.declared.lines.Line.TheVariants.{One, Two, Three, Five}

-- A fault: its number and its offset.
abbrev pub fault_line : Fault → Line
fault_line e = Two (fault_number e.kind) e.place.offset

-- A table: its counts, or its fault.
abbrev pub table_line : Parsed table.Laid → Line
table_line (got l at) = Five done (length l.spaces.records) (length l.bindings.records) (length l.accesses.records) (length l.delegations.records)
table_line (bad e) = fault_line e

-- A key table: its counts, or its fault.
abbrev pub key_table_line : Parsed KeyLaid → Line
key_table_line (got l at) = Three done (length l.accesses.records) (length l.delegations.records)
key_table_line (bad e) = fault_line e

-- Whether something was read: the number of a done answer, or this one.
abbrev pub whole_line : {A : Type 0} → ℕ → Option A → Line
whole_line wrong none = One wrong
whole_line wrong (some x) = One done

-- A request: the table's fault, or whether the request is done against it.
abbrev pub request_line : Parsed table.Laid → List ℕ → Line
request_line (got l at) s = whole_line wrong_request (read_request (length l.spaces.records) s)
request_line (bad e) s = fault_line e

-- A key request: whether it is good.
abbrev pub key_request_line : Option KeyRequest → Line
key_request_line = whole_line wrong_request

-- A derivation: how many bindings it lists and how many records its chain has.
abbrev pub derivation_line : Option derivation.Laid → Line
derivation_line none = One not_a_derivation
derivation_line (some l) = Three done (length l.derivation.bindings) (suc (length l.derivation.delegations))
