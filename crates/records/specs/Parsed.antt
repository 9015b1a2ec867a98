-- What reading finds: a value with the place after it, or a fault with its place. Readers that follow one another.
use Rattle.std.specs.Prelude.{List, ℕ, ◌+◌, Option, Some, None, Result, Ok, Err}
use Rattle.records.specs.declared.faults.Kind.{Kind}
use Rattle.records.specs.declared.faults.Fault.{Fault}

pub data Parsed (A : Type 0) : Type 0 where
  got : A → ℕ → Parsed A
  bad : Fault → Parsed A

-- A reader of bytes, from a place on.
abbrev pub Reader : Type 0 → Type 0
Reader A = List ℕ → ℕ → Parsed A

abbrev pub fault_at : Kind → ℕ → Fault
fault_at kind at = record { kind = kind; place = record { offset = at } }

-- The first, and where it finds a value, the second from the place after it.
infixl 20 ◌⟫◌
unfoldable pub ◌⟫◌ : {A B : Type 0} → Parsed A → (A → ℕ → Parsed B) → Parsed B
got x at ⟫ f = f x at
bad e ⟫ f = bad e

-- One after the other.
infixr 30 ◌⊗◌
unfoldable pub ◌⊗◌ : {A B : Type 0} → Reader A → Reader B → Reader (A × B)
P ⊗ Q = λ s at. P s at ⟫ λ x at. Q s at ⟫ λ y at. got (x, y) at

-- What is found, made into something else.
unfoldable pub mapped : {A B : Type 0} → (A → B) → Reader A → Reader B
mapped f P = λ s at. P s at ⟫ λ x at. got (f x) at

-- ---- as seen from the beginning of a whole of which the bytes are the rest from `by` on
abbrev pub moved_fault : ℕ → Fault → Fault
moved_fault by e = record { kind = e.kind; place = record { offset = by + e.place.offset } }

abbrev pub moved_by : {A : Type 0} → ℕ → Parsed A → Parsed A
moved_by by (got x at) = got x (by + at)
moved_by by (bad e) = bad (moved_fault by e)

-- ---- as code answers
-- What is found, as code holds it, with the place after it; or the fault.
abbrev pub found_as : {A B : Type 0} → (A → B) → Parsed A → Result (B × ℕ) Fault
found_as f (got x at) = Ok (f x, at)
found_as f (bad e) = Err e

-- What code holds as it is.
abbrev pub found : {A : Type 0} → Parsed A → Result (A × ℕ) Fault
found = found_as (λ x. x)

-- The place after what is found; or the fault.
abbrev pub after : {A : Type 0} → Parsed A → Result ℕ Fault
after (got x at) = Ok at
after (bad e) = Err e

-- The place after what is found, where its fault is not told.
abbrev pub place_after : {A : Type 0} → Parsed A → Option ℕ
place_after (got x at) = Some at
place_after (bad e) = None
