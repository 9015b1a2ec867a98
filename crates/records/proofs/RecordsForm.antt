-- Bindings, access records and delegations have one form.
use mathlib.Core.Path.{◌≡◌, refl, sym, ap, subst}
use mathlib.Core.Bool.{Bool, true, false}
use mathlib.Core.Logic.{◌↔◌}
use mathlib.Core.List.{List, ◌++◌}
use Prim.Native.Nat.{ℕ, ◌<◌, ◌≤◌, ◌^◌}
use native.Mathlib.Omega.{arith}
use Rattle.rules.specs.Choice.{pick}
use Rattle.rules.specs.Depths.{top}
use Rattle.rules.specs.Ranges.{Between, most_base, GoodPath, GoodTarget, GoodBinding, GoodAccess, GoodDelegation}
use Rattle.rules.specs.Tables.{Binding, AccessRecord, Delegation}
use Rattle.rules.specs.declared.Space.{Space}
use Rattle.wire.specs.Number.{bytes_of}
use Rattle.records.specs.Parsed.{Parsed, got, bad, Reader, fault_at, ◌⟫◌, mapped}
use Rattle.records.specs.Fields.{field, space_field, use_fields, depth_field}
use Rattle.records.specs.Paths.{path_field}
use Rattle.records.specs.Targets.{target_field, target_bytes}
use Rattle.records.specs.Bindings.{binding_record, binding_bytes}
use Rattle.records.specs.Accesses.{access_record, access_bytes}
use Rattle.records.specs.Delegations.{delegation_record, delegation_bytes}
use Rattle.records.specs.declared.faults.Kind.TheVariants as kind
use Rattle.records.proofs.ParsedLaws.{then_on, got_then, bad_first}
use Rattle.records.proofs.FormatLaws.{Walks, Format, refit, reread_walks, reread_format, led, led_walks, led_format, refused, refused_walks, refused_format, mapped_walks, made_format, mapped_format, both_walks, both_format}
use Rattle.records.proofs.FieldsForm.{field_walks, field_format, space_walks, space_format, depth_walks, depth_format, use_walks, GoodUse, use_format}
use Rattle.records.proofs.PathsForm.{path_walks, path_format, target_walks, target_format}

-- ---- a binding: a space, a base name that is new to it, and a target
abbrev new_base : (Space → ℕ → Bool) → Space → Reader ℕ
new_base bound S = refused kind.Twice (bound S) (field 1 most_base)

abbrev bound_to : ℕ → Space → ℕ → Reader Binding
bound_to spaces S b = mapped (λ g. record { space = S; base = b; target = g }) (target_field spaces)

abbrev in_space : ℕ → (Space → ℕ → Bool) → Space → Reader Binding
in_space spaces bound S = led (new_base bound S) (bound_to spaces S)

in_parts : (spaces : ℕ) (bound : Space → ℕ → Bool) (s : List ℕ) (at : ℕ) → led (space_field spaces) (in_space spaces bound) s at ≡ binding_record spaces bound s at
unfolding binding_record mapped
in_parts spaces bound s at = ap (λ (f : Space → ℕ → Parsed Binding). space_field spaces s at ⟫ f) (λ i S at. then_on (field 1 most_base s at) _ _ _ (λ b next. go S at b next (bound S b)) i)
  where
    go : (S : Space) (at b next : ℕ) (t : Bool) → (pick t (bad (fault_at kind.Twice at)) (got b next) ⟫ λ b next. bound_to spaces S b s next) ≡ pick t (bad (fault_at kind.Twice at)) (bound_to spaces S b s next)
    go S at b next true = bad_first _ _ refl
    go S at b next false = got_then _ _ refl

pub binding_walks : (spaces : ℕ) (bound : Space → ℕ → Bool) → Walks (binding_record spaces bound)
binding_walks spaces bound =
    reread_walks (led (space_field spaces) (in_space spaces bound)) (binding_record spaces bound) (in_parts spaces bound)
    (led_walks (space_field spaces) (in_space spaces bound) (space_walks spaces)
    (λ S. led_walks (new_base bound S) (bound_to spaces S) (refused_walks kind.Twice (bound S) (field 1 most_base) (field_walks 1 most_base)) (λ b. mapped_walks _ (target_field spaces) (target_walks spaces))))

module _ (spaces : ℕ) (few : spaces ≤ 2 ^ 32) (bound : Space → ℕ → Bool) where
  bound_to_format : (S : Space) (b : ℕ) → Format (λ x. (GoodTarget spaces x.target × (x.space ≡ S)) × (x.base ≡ b)) (bound_to spaces S b) (λ x. target_bytes x.target)
  bound_to_format S b =
      made_format _ (target_field spaces) (GoodTarget spaces) target_bytes _ (λ (x : Binding). target_bytes x.target) (λ g h. ((h, refl), refl))
      (λ x h. (x.target, h.0.0, λ i. record { space = sym h.0.1 i; base = sym h.1 i; target = x.target })) (λ g. refl) (target_format spaces few)

  -- What stands behind the space number.
  abbrev Behind : Binding → Type 0
  Behind x = Between 1 most_base x.base × (bound x.space x.base ≡ false) × GoodTarget spaces x.target

  in_space_format : (S : Space) → Format (λ x. Behind x × (x.space ≡ S)) (in_space spaces bound S) (λ x. bytes_of x.base ++ target_bytes x.target)
  in_space_format S =
      refit _ _ (in_space spaces bound S) _ same
      (led_format (new_base bound S) (bound_to spaces S) _ _ (λ x. GoodTarget spaces x.target × (x.space ≡ S)) (λ x. target_bytes x.target) (λ x. x.base)
      (refused_format kind.Twice (bound S) (field 1 most_base) _ _ (field_format 1 most_base (omega arith))) (λ b fit. bound_to_format S b))
    where
      same : (x : Binding) → ((Between 1 most_base x.base × (bound S x.base ≡ false)) × (GoodTarget spaces x.target × (x.space ≡ S))) ↔ (Behind x × (x.space ≡ S))
      same x = (
        λ w. ((w.0.0, subst (λ (T : Space). bound T x.base ≡ false) (sym w.1.1) w.0.1, w.1.0), w.1.1),
        λ w. ((w.0.0, subst (λ (T : Space). bound T x.base ≡ false) w.1 w.0.1), (w.0.2, w.1)),
      )

  pub binding_format : Format (λ x. GoodBinding spaces x × (bound x.space x.base ≡ false)) (binding_record spaces bound) binding_bytes
  binding_format =
      refit (λ x. (x.space.0 < spaces) × Behind x) _ (binding_record spaces bound) binding_bytes
      (λ x. (λ w. (record { space = w.0; base = w.1.0; target = w.1.2 }, w.1.1), λ w. (w.0.space, (w.0.base, w.1, w.0.target))))
      (reread_format (led (space_field spaces) (in_space spaces bound)) (binding_record spaces bound) (in_parts spaces bound) _ _
      (led_format (space_field spaces) (in_space spaces bound) _ _ Behind (λ x. bytes_of x.base ++ target_bytes x.target) (λ x. x.space)
      (space_format spaces few) (λ S fit. in_space_format S)))

-- ---- an access record
pub access_walks : (spaces : ℕ) → Walks (access_record spaces)
unfolding access_record
access_walks spaces =
    mapped_walks _ _ (both_walks (space_field spaces) _ (space_walks spaces) (both_walks use_fields _ use_walks (both_walks path_field depth_field path_walks depth_walks)))

pub access_format : (spaces : ℕ) → spaces ≤ 2 ^ 32 → Format (GoodAccess spaces) (access_record spaces) access_bytes
unfolding access_record
access_format spaces few =
    refit _ (GoodAccess spaces) (access_record spaces) access_bytes same
    (mapped_format _ _ _ _ (λ (x : AccessRecord). (x.owner, ((x.object, x.right), (x.path, x.depth)))) (λ x. Unit {0}) (λ w. tt) (λ w. refl) (λ x u. refl)
    (both_format (space_field spaces) _ _ _ _ _ (space_format spaces few) (both_format use_fields _ _ _ _ _ use_format (both_format path_field depth_field _ _ _ _ path_format depth_format))))
  where
    same : (x : AccessRecord) → (((x.owner.0 < spaces) × (GoodUse (x.object, x.right) × (GoodPath x.path × (x.depth ≤ top)))) × Unit {0}) ↔ GoodAccess spaces x
    same x = (
      λ w. record { owner = w.0.0; object = w.0.1.0.0.most; right = w.0.1.0.1; path = w.0.1.1.0; depth = w.0.1.1.1 },
      λ g. ((g.owner, ((record { least = omega arith; most = g.object }, g.right), (g.path, g.depth))), tt),
    )

-- ---- a delegation
pub delegation_walks : (spaces : ℕ) → Walks (delegation_record spaces)
unfolding delegation_record
delegation_walks spaces =
    mapped_walks _ _
    (both_walks (space_field spaces) _ (space_walks spaces)
    (both_walks path_field _ path_walks (both_walks use_fields _ use_walks (both_walks path_field depth_field path_walks depth_walks))))

pub delegation_format : (spaces : ℕ) → spaces ≤ 2 ^ 32 → Format (GoodDelegation spaces) (delegation_record spaces) delegation_bytes
unfolding delegation_record
delegation_format spaces few =
    refit _ (GoodDelegation spaces) (delegation_record spaces) delegation_bytes same
    (mapped_format _ _ _ _ (λ (x : Delegation). (x.writer, (x.owner_path, ((x.object, x.right), (x.delegatee_path, x.depth))))) (λ x. Unit {0}) (λ w. tt) (λ w. refl) (λ x u. refl)
    (both_format (space_field spaces) _ _ _ _ _ (space_format spaces few)
    (both_format path_field _ _ _ _ _ path_format (both_format use_fields _ _ _ _ _ use_format (both_format path_field depth_field _ _ _ _ path_format depth_format)))))
  where
    same : (x : Delegation)
        → (((x.writer.0 < spaces) × (GoodPath x.owner_path × (GoodUse (x.object, x.right) × (GoodPath x.delegatee_path × (x.depth ≤ top))))) × Unit {0})
        ↔ GoodDelegation spaces x
    same x = (
      λ w. record {
        writer = w.0.0;
        owner_path = w.0.1.0;
        object = w.0.1.1.0.0.most;
        right = w.0.1.1.0.1;
        delegatee_path = w.0.1.1.1.0;
        depth = w.0.1.1.1.1;
      },
      λ g. ((g.writer, (g.owner_path, ((record { least = omega arith; most = g.object }, g.right), (g.delegatee_path, g.depth)))), tt),
    )
