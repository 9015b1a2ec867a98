-- A binding of a table, as code holds it.
use Rattle.std.specs.Prelude.{◌≡◌, ℕ}
use Rattle.rules.specs.Lists.{At}
use Rattle.rules.specs.Tables.{Binding, Table}
use Rattle.records.specs.Bindings.{binding_value}
use Rattle.records.specs.declared.bindings.Binding.{Binding as BindingValue}

-- Binding number `i` of the table.
pub record IsBinding (t : Table) (i : ℕ) (v : BindingValue) : Type 0 where
  pub entry : Binding
  pub at : At t.names.bindings i entry
  pub is : v ≡ binding_value entry
