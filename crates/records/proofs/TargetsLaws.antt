-- By its first number a target is read as a key or as a name.
use mathlib.Core.Path.{◌≡◌, ◌∙◌}
use mathlib.Core.List.{List}
use Prim.Native.Nat.{ℕ}
use borrow.Author.Tests.{eq-eqb, ne_eqb}
use Rattle.rules.specs.Tables.{to_key}
use Rattle.records.specs.Parsed.{got, mapped}
use Rattle.records.specs.Fields.{field, key_field}
use Rattle.records.specs.Targets.{target_field, name_fields}
use Rattle.records.proofs.ParsedLaws.{got_then}

module _ (spaces : ℕ) (s : List ℕ) (at form mid : ℕ) (first : field 0 1 s at ≡ got form mid) where
  pub by_key : form ≡ 0 → target_field spaces s at ≡ mapped to_key key_field s mid
  unfolding target_field
  by_key h = got_then (field 0 1 s at) _ first ∙ rw (eq-eqb form 0 h)

  pub by_name : (form ≡ 0 → ⊥) → target_field spaces s at ≡ name_fields spaces s mid
  unfolding target_field
  by_name h = got_then (field 0 1 s at) _ first ∙ rw (ne_eqb form 0 h)
