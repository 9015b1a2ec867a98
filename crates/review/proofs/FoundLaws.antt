-- A binding that is read where it stands is the one that the table has.
use mathlib.Core.Path.{◌≡◌, refl, sym, ◌∙◌, ap}
use mathlib.Core.List.{List}
use Prim.Native.Nat.{ℕ, ◌<◌}
use native.Mathlib.Omega.{arith}
use lib.ListN.{length, take, get_or}
use Rattle.std.specs.Prelude.{Result, Ok}
use Rattle.std.specs.Result.{IsOk}
use Rattle.rules.specs.Lists.{At}
use Rattle.rules.specs.Tables.{Binding}
use Rattle.records.specs.Parsed.{found_as}
use Rattle.records.specs.Bindings.{binding_record, binding_value, packed}
use Rattle.records.specs.Rows.{is_among}
use Rattle.records.specs.declared.bindings.Binding.{Binding as BindingValue}
use Rattle.records.specs.declared.faults.Fault.{Fault}
use Rattle.table.specs.ReadTable.{table_at}
use Rattle.table.proofs.LoadingLaws.{rest}
use Rattle.table.proofs.FindingLaws.{at_below}
use Rattle.sheet.specs.Known.{Known}
use Rattle.sheet.proofs.MeaningLaws.{binding_reads, index_bindings}
use Rattle.review.specs.Bindings.{IsBinding}

module _ (s keys names places : List ℕ) (known : Known (table_at s).names s keys names places) (i : ℕ) (h : i < length names) (r : Result (BindingValue × ℕ) Fault)
    (found : r ≡ found_as binding_value (binding_record (length keys) (λ S b. is_among (take 0 names) (packed S b)) (rest s (get_or places i 0)) 0)) where
  entry : (x : Binding) × At (table_at s).names.bindings i x
  entry = at_below (table_at s).names.bindings i (omega (arith, h, index_bindings (table_at s).names keys names known.index))

  read : (n : ℕ) × (r ≡ Ok (binding_value entry.0, n))
  read = binding_reads (table_at s).names s keys names places known i h r found entry.0 entry.1

  pub binding_read : IsOk r
  binding_read = rw read.1 refl

  pub binding_is : (w : BindingValue × ℕ) → r ≡ Ok w → IsBinding (table_at s) i w.0
  binding_is w q =
      let a = read in
      let e : ◌≡◌ {A = Result (BindingValue × ℕ) Fault} (Ok (binding_value entry.0, a.0)) (Ok w) = sym a.1 ∙ q in
      let u : ◌≡◌ {A = BindingValue × ℕ} (binding_value entry.0, a.0) w = cc e in
      record { entry = entry.0; at = entry.1; is = ap (λ k. k.0) (sym u) }
