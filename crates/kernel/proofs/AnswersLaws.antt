-- What code makes of a fault is what the list says of it.
use mathlib.Core.Path.{◌≡◌, ap}
use Prim.Native.Nat.{ℕ}
use Rattle.records.specs.declared.faults.Fault.{Fault}
use Rattle.kernel.specs.Answers.{fault_number, of_fault}
use Rattle.kernel.specs.declared.answers.Answer.{Answer}

pub told_fault : (f : Fault) (n : ℕ) → n ≡ fault_number f.kind → ◌≡◌ {A = Answer} (record { number = n; offset = f.place.offset; depth = 0; length = 0 }) (of_fault f)
told_fault f n e = ap (λ (m : ℕ). record { number = m; offset = f.place.offset; depth = 0; length = 0 }) e
