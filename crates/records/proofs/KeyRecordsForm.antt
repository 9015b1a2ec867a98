-- Key access records and key delegations have one form.
use mathlib.Core.Path.{refl}
use mathlib.Core.Logic.{◌↔◌}
use Prim.Native.Nat.{◌≤◌}
use native.Mathlib.Omega.{arith}
use Rattle.rules.specs.Depths.{top}
use Rattle.rules.specs.Ranges.{GoodKey, GoodKeyAccess, GoodKeyDelegation}
use Rattle.rules.specs.KeyTables.{KeyAccess, KeyDelegation}
use Rattle.records.specs.Fields.{key_field, use_fields, depth_field}
use Rattle.records.specs.KeyRecords.{key_access_record, key_delegation_record, key_access_bytes, key_delegation_bytes}
use Rattle.records.proofs.FormatLaws.{Walks, Format, refit, mapped_walks, mapped_format, both_walks, both_format}
use Rattle.records.proofs.FieldsForm.{key_walks, key_format, depth_walks, depth_format, use_walks, GoodUse, use_format}

-- ---- a key access record
pub key_access_walks : Walks key_access_record
unfolding key_access_record
key_access_walks = mapped_walks _ _ (both_walks key_field _ key_walks (both_walks use_fields _ use_walks (both_walks key_field depth_field key_walks depth_walks)))

pub key_access_format : Format GoodKeyAccess key_access_record key_access_bytes
unfolding key_access_record
key_access_format =
    refit _ GoodKeyAccess key_access_record key_access_bytes same
    (mapped_format _ _ _ _ (λ (x : KeyAccess). (x.owner, ((x.object, x.right), (x.subject, x.depth)))) (λ x. Unit {0}) (λ w. tt) (λ w. refl) (λ x u. refl)
    (both_format key_field _ _ _ _ _ key_format (both_format use_fields _ _ _ _ _ use_format (both_format key_field depth_field _ _ _ _ key_format depth_format))))
  where
    same : (x : KeyAccess) → ((GoodKey x.owner × (GoodUse (x.object, x.right) × (GoodKey x.subject × (x.depth ≤ top)))) × Unit {0}) ↔ GoodKeyAccess x
    same x = (
      λ w. record { owner = w.0.0; object = w.0.1.0.0.most; right = w.0.1.0.1; subject = w.0.1.1.0; depth = w.0.1.1.1 },
      λ g. ((g.owner, ((record { least = omega arith; most = g.object }, g.right), (g.subject, g.depth))), tt),
    )

-- ---- a key delegation
pub key_delegation_walks : Walks key_delegation_record
unfolding key_delegation_record
key_delegation_walks =
    mapped_walks _ _ (both_walks key_field _ key_walks (both_walks key_field _ key_walks (both_walks use_fields _ use_walks (both_walks key_field depth_field key_walks depth_walks))))

pub key_delegation_format : Format GoodKeyDelegation key_delegation_record key_delegation_bytes
unfolding key_delegation_record
key_delegation_format =
    refit _ GoodKeyDelegation key_delegation_record key_delegation_bytes same
    (mapped_format _ _ _ _ (λ (x : KeyDelegation). (x.writer, (x.owner, ((x.object, x.right), (x.delegatee, x.depth))))) (λ x. Unit {0}) (λ w. tt) (λ w. refl) (λ x u. refl)
    (both_format key_field _ _ _ _ _ key_format
    (both_format key_field _ _ _ _ _ key_format (both_format use_fields _ _ _ _ _ use_format (both_format key_field depth_field _ _ _ _ key_format depth_format)))))
  where
    same : (x : KeyDelegation)
        → ((GoodKey x.writer × (GoodKey x.owner × (GoodUse (x.object, x.right) × (GoodKey x.delegatee × (x.depth ≤ top))))) × Unit {0})
        ↔ GoodKeyDelegation x
    same x = (
      λ w. record { writer = w.0.0; owner = w.0.1.0; object = w.0.1.1.0.0.most; right = w.0.1.1.0.1; delegatee = w.0.1.1.1.0; depth = w.0.1.1.1.1 },
      λ g. ((g.writer, (g.owner, ((record { least = omega arith; most = g.object }, g.right), (g.delegatee, g.depth)))), tt),
    )
