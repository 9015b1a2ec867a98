-- Request: target (the subject), owner space number, object, right; at most 64 bytes. Key request: subject key, owner key, object, right; at most 64 bytes.
use Rattle.std.specs.Prelude.{List, ◌++◌, ℕ, eqb, leb, length, Option as Answer, Some, None}
use Rattle.std.proofs.Math.Option.{Option, none, some}
use Rattle.rules.specs.Choice.{pick}
use Rattle.rules.specs.Tables.{Request}
use Rattle.rules.specs.KeyTables.{KeyRequest}
use Rattle.wire.specs.Number.{bytes_of}
use Rattle.records.specs.Parsed.{Parsed, got, bad, Reader, ◌⊗◌, mapped}
use Rattle.records.specs.Fields.{space_field, key_field, use_fields}
use Rattle.records.specs.Targets.{target_field, target_bytes, target_value}
use Rattle.records.specs.declared.requests.Request.{Request as RequestValue}
use Rattle.records.specs.declared.requests.KeyRequest.{KeyRequest as KeyRequestValue}

abbrev pub most_request : ℕ
most_request = 64

-- What is read from the first byte to the last, or nothing.
abbrev pub ended : {A : Type 0} → List ℕ → Parsed A → Option A
ended s (got x at) = pick (eqb at (length s)) (some x) none
ended s (bad e) = none

abbrev pub whole : {A : Type 0} → ℕ → Reader A → List ℕ → Option A
whole most P s = pick (leb (length s) most) (ended s (P s 0)) none

unfoldable pub request_fields : ℕ → Reader Request
request_fields spaces =
    mapped (λ w. record { subject = w.0; asked = record { owner = w.1.0; object = w.1.1.0; right = w.1.1.1 } }) (target_field spaces ⊗ space_field spaces ⊗ use_fields)

unfoldable pub key_request_fields : Reader KeyRequest
key_request_fields = mapped (λ w. record { subject = w.0; asked = record { owner = w.1.0; object = w.1.1.0; right = w.1.1.1 } }) (key_field ⊗ key_field ⊗ use_fields)

-- As code answers: what there is, as code holds it.
abbrev pub held_as : {A B : Type 0} → (A → B) → Option A → Answer B
held_as f none = None
held_as f (some x) = Some (f x)

-- THE REQUEST that the bytes hold, against a table with so many spaces, or nothing.
unfoldable pub read_request : ℕ → List ℕ → Option Request
read_request spaces s = whole most_request (request_fields spaces) s

-- THE KEY REQUEST that the bytes hold, or nothing.
unfoldable pub read_key_request : List ℕ → Option KeyRequest
read_key_request s = whole most_request key_request_fields s

-- ---- their bytes
abbrev pub request_bytes : Request → List ℕ
request_bytes r = target_bytes r.subject ++ (bytes_of r.asked.owner.0 ++ (bytes_of r.asked.object ++ bytes_of r.asked.right))

abbrev pub key_request_bytes : KeyRequest → List ℕ
key_request_bytes r = bytes_of r.subject.0 ++ (bytes_of r.asked.owner.0 ++ (bytes_of r.asked.object ++ bytes_of r.asked.right))

-- ---- as code holds them
abbrev pub request_value : Request → RequestValue
request_value r = record { subject = target_value r.subject; owner = r.asked.owner; wanted = record { object = r.asked.object; right = r.asked.right } }

abbrev pub key_request_value : KeyRequest → KeyRequestValue
key_request_value r = record { subject = r.subject; owner = r.asked.owner; wanted = record { object = r.asked.object; right = r.asked.right } }
