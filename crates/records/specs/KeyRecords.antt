-- Key access record: owner key, object, right, subject key, depth. Key delegation: writer key, owner key, object, right, delegatee key, depth.
use Rattle.std.specs.Prelude.{List, ◌++◌, ℕ}
use Rattle.rules.specs.KeyTables.{KeyAccess, KeyDelegation}
use Rattle.wire.specs.Number.{bytes_of}
use Rattle.records.specs.Parsed.{Reader, ◌⊗◌, mapped}
use Rattle.records.specs.Fields.{key_field, use_fields, depth_field}
use Rattle.records.specs.declared.keys.KeyAccess.{KeyAccess as KeyAccessValue}
use Rattle.records.specs.declared.keys.KeyDelegation.{KeyDelegation as KeyDelegationValue}

unfoldable pub key_access_record : Reader KeyAccess
key_access_record =
    mapped (λ w. record { owner = w.0; object = w.1.0.0; right = w.1.0.1; subject = w.1.1.0; depth = w.1.1.1 }) (key_field ⊗ use_fields ⊗ key_field ⊗ depth_field)

unfoldable pub key_delegation_record : Reader KeyDelegation
key_delegation_record =
    mapped (λ w. record { writer = w.0; owner = w.1.0; object = w.1.1.0.0; right = w.1.1.0.1; delegatee = w.1.1.1.0; depth = w.1.1.1.1 })
    (key_field ⊗ key_field ⊗ use_fields ⊗ key_field ⊗ depth_field)

-- ---- their bytes
abbrev pub key_access_bytes : KeyAccess → List ℕ
key_access_bytes x = bytes_of x.owner.0 ++ ((bytes_of x.object ++ bytes_of x.right) ++ (bytes_of x.subject.0 ++ bytes_of x.depth))

abbrev pub key_delegation_bytes : KeyDelegation → List ℕ
key_delegation_bytes x =
    bytes_of x.writer.0 ++ (bytes_of x.owner.0 ++ ((bytes_of x.object ++ bytes_of x.right) ++ (bytes_of x.delegatee.0 ++ bytes_of x.depth)))

-- ---- as code holds them
abbrev pub key_access_value : KeyAccess → KeyAccessValue
key_access_value x = record { owner = x.owner; wanted = record { object = x.object; right = x.right }; subject = x.subject; depth = record { 0 = x.depth } }

abbrev pub key_access_of : KeyAccessValue → KeyAccess
key_access_of x = record { owner = x.owner; object = x.wanted.object; right = x.wanted.right; subject = x.subject; depth = x.depth.0 }

abbrev pub key_delegation_value : KeyDelegation → KeyDelegationValue
key_delegation_value x = record {
  writer = x.writer;
  owner = x.owner;
  wanted = record { object = x.object; right = x.right };
  delegatee = x.delegatee;
  depth = record { 0 = x.depth };
}

abbrev pub key_delegation_of : KeyDelegationValue → KeyDelegation
key_delegation_of x = record { writer = x.writer; owner = x.owner; object = x.wanted.object; right = x.wanted.right; delegatee = x.delegatee; depth = x.depth.0 }
