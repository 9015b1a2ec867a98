-- How long records and tables are.
use mathlib.Core.List.{List, [], ◌∷◌, ◌++◌}
use Prim.Native.Nat.{ℕ, suc, ◌+◌, ◌*◌, ◌<◌, ◌≤◌}
use native.Mathlib.Nat.{mul-suc}
use native.Mathlib.Omega.{arith}
use lib.ListN.{length, length-append}
use Rattle.rules.specs.Lists.{At}
use Rattle.rules.specs.Ranges.{Between, most_base, GoodPath, GoodTarget, GoodBinding, GoodAccess, GoodDelegation, Good, GoodKeyAccess, GoodKeyDelegation, GoodKeyTable}
use Rattle.rules.specs.Tables.{Path, Target, to_key, to_name, Binding, AccessRecord, Delegation, Table}
use Rattle.rules.specs.KeyTables.{KeyAccess, KeyDelegation, KeyTable}
use Rattle.rules.specs.declared.Key.{Key}
use Rattle.rules.proofs.ListsLaws.{at_head, at_tail}
use Rattle.wire.specs.Number.{bytes_of}
use Rattle.wire.proofs.NumberLaws.{bytes_short, bytes_within}
use Rattle.records.specs.Many.{many_bytes}
use Rattle.records.specs.Paths.{names_bytes, path_bytes}
use Rattle.records.specs.Targets.{target_bytes}
use Rattle.records.specs.Bindings.{binding_bytes}
use Rattle.records.specs.Accesses.{access_bytes}
use Rattle.records.specs.Delegations.{delegation_bytes}
use Rattle.records.specs.KeyRecords.{key_access_bytes, key_delegation_bytes}
use Rattle.table.specs.ReadTable.{section_bytes, table_bytes}
use Rattle.table.specs.ReadKeyTable.{key_table_bytes}

-- ---- numbers
one : (v : ℕ) → v < 128 → length (bytes_of v) ≤ 1
one v h = bytes_within 0 v h

two : (v : ℕ) → v < 16384 → length (bytes_of v) ≤ 2
two v h = bytes_within 1 v h

three : (v : ℕ) → v < 2097152 → length (bytes_of v) ≤ 3
three v h = bytes_within 2 v h

-- ---- rows
pub row_short : {A : Type 0} (E : A → List ℕ) (most : ℕ) (l : List A) → ((i : ℕ) (x : A) → At l i x → length (E x) ≤ most) → length (many_bytes E l) ≤ most * length l
unfolding many_bytes
row_short E most [] f = omega arith
row_short E most (x ∷ l) f =
    omega (arith, f 0 x at_head, row_short E most l (λ i y a. f (suc i) y (at_tail a)), length-append (E x) (many_bytes E l), mul-suc most (length l))

-- ---- records
names_short : (p : Path) → ((i b : ℕ) → At p i b → Between 1 most_base b) → length (names_bytes p) ≤ 3 * length p
unfolding names_bytes
names_short [] f = omega arith
names_short (b ∷ p) f = omega (arith, three b (omega (arith, (f 0 b at_head).most)), names_short p (λ i c a. f (suc i) c (at_tail a)), length-append (bytes_of b) (names_bytes p))

path_short : (p : Path) → GoodPath p → length (path_bytes p) ≤ 13
path_short p g = omega (arith, one (length p) (omega (arith, g.short)), names_short p g.bases, g.short, length-append (bytes_of (length p)) (names_bytes p))

target_short : (n : ℕ) → n ≤ 64 → (g : Target) → GoodTarget n g → length (target_bytes g) ≤ 15
target_short n h (to_key k) w = omega (arith, one 0 (omega arith), bytes_short k.0, length-append (bytes_of 0) (bytes_of k.0))
target_short n h (to_name S p) w =
    omega (arith, one 1 (omega arith), one S.0 (omega (arith, w.0)), path_short p w.1, length-append (bytes_of 1) (bytes_of S.0 ++ path_bytes p), length-append (bytes_of S.0) (path_bytes p))

binding_short : (n : ℕ) → n ≤ 64 → (x : Binding) → GoodBinding n x → length (binding_bytes x) ≤ 19
binding_short n h x g =
    omega (arith, one x.space.0 (omega (arith, g.space)), three x.base (omega (arith, g.base.most)), target_short n h x.target g.target, length-append (bytes_of x.space.0) (bytes_of x.base ++ target_bytes x.target), length-append (bytes_of x.base) (target_bytes x.target))

module _ (object right : ℕ) (o : object ≤ 65535) (r : right ≤ 32) where
  use_short : length (bytes_of object ++ bytes_of right) ≤ 4
  use_short = omega (arith, three object (omega (arith, o)), one right (omega (arith, r)), length-append (bytes_of object) (bytes_of right))

access_short : (n : ℕ) → n ≤ 64 → (x : AccessRecord) → GoodAccess n x → length (access_bytes x) ≤ 19
access_short n h x g =
    let u = bytes_of x.object ++ bytes_of x.right in
    let v = path_bytes x.path ++ bytes_of x.depth in
    omega (arith, one x.owner.0 (omega (arith, g.owner)), use_short x.object x.right g.object g.right.most, path_short x.path g.path, one x.depth (omega (arith, g.depth)), length-append (bytes_of x.owner.0) (u ++ v), length-append u v, length-append (path_bytes x.path) (bytes_of x.depth))

delegation_short : (n : ℕ) → n ≤ 64 → (x : Delegation) → GoodDelegation n x → length (delegation_bytes x) ≤ 32
delegation_short n h x g =
    let u = bytes_of x.object ++ bytes_of x.right in
    let v = path_bytes x.delegatee_path ++ bytes_of x.depth in
    omega (arith, one x.writer.0 (omega (arith, g.writer)), path_short x.owner_path g.owner_path, use_short x.object x.right g.object g.right.most, path_short x.delegatee_path g.delegatee_path, one x.depth (omega (arith, g.depth)), length-append (bytes_of x.writer.0) (path_bytes x.owner_path ++ (u ++ v)), length-append (path_bytes x.owner_path) (u ++ v), length-append u v, length-append (path_bytes x.delegatee_path) (bytes_of x.depth))

pub key_access_short : (x : KeyAccess) → GoodKeyAccess x → length (key_access_bytes x) ≤ 15
key_access_short x g =
    let u = bytes_of x.object ++ bytes_of x.right in
    let v = bytes_of x.subject.0 ++ bytes_of x.depth in
    omega (arith, bytes_short x.owner.0, use_short x.object x.right g.object g.right.most, bytes_short x.subject.0, one x.depth (omega (arith, g.depth)), length-append (bytes_of x.owner.0) (u ++ v), length-append u v, length-append (bytes_of x.subject.0) (bytes_of x.depth))

pub key_delegation_short : (x : KeyDelegation) → GoodKeyDelegation x → length (key_delegation_bytes x) ≤ 20
key_delegation_short x g =
    let u = bytes_of x.object ++ bytes_of x.right in
    let v = bytes_of x.delegatee.0 ++ bytes_of x.depth in
    omega (arith, bytes_short x.writer.0, bytes_short x.owner.0, use_short x.object x.right g.object g.right.most, bytes_short x.delegatee.0, one x.depth (omega (arith, g.depth)), length-append (bytes_of x.writer.0) (bytes_of x.owner.0 ++ (u ++ v)), length-append (bytes_of x.owner.0) (u ++ v), length-append u v, length-append (bytes_of x.delegatee.0) (bytes_of x.depth))

-- ---- sections
section_short : {A : Type 0} (E : A → List ℕ) (most : ℕ) (l : List A) → length l < 16384 → ((i : ℕ) (x : A) → At l i x → length (E x) ≤ most) → length (section_bytes E l) ≤ 2 + most * length l
section_short E most l h f = omega (arith, two (length l) h, row_short E most l f, length-append (bytes_of (length l)) (many_bytes E l))

-- A GOOD TABLE has at most 26,440 bytes.
pub table_short : (t : Table) → Good t → length (table_bytes t) ≤ 26440
unfolding table_bytes
table_short t g =
    let n = length t.names.spaces in
    let a = section_bytes (λ (k : Key). bytes_of k.0) t.names.spaces in
    let b = section_bytes binding_bytes t.names.bindings in
    let c = section_bytes access_bytes t.accesses in
    let d = section_bytes delegation_bytes t.delegations in
    let s : length (many_bytes (λ (k : Key). bytes_of k.0) t.names.spaces) ≤ 5 * n = row_short (λ (k : Key). bytes_of k.0) 5 t.names.spaces (λ i k x. bytes_short k.0) in
    let p : length b ≤ 2 + 19 * length t.names.bindings = section_short binding_bytes 19 t.names.bindings (omega (arith, g.few_bindings)) (λ i x e. binding_short n g.few_spaces x (g.names.bindings i x e)) in
    let q : length c ≤ 2 + 19 * length t.accesses = section_short access_bytes 19 t.accesses (omega (arith, g.few_accesses)) (λ i x e. access_short n g.few_spaces x (g.accesses i x e)) in
    let r : length d ≤ 2 + 32 * length t.delegations = section_short delegation_bytes 32 t.delegations (omega (arith, g.few_delegations)) (λ i x e. delegation_short n g.few_spaces x (g.delegations i x e)) in
    omega (arith, one 1 (omega arith), one n (omega (arith, g.few_spaces)), s, p, q, r, g.few_spaces, g.few_bindings, g.few_accesses, g.few_delegations, length-append (bytes_of 1) (a ++ (b ++ (c ++ d))), length-append a (b ++ (c ++ d)), length-append b (c ++ d), length-append c d, length-append (bytes_of n) (many_bytes (λ (k : Key). bytes_of k.0) t.names.spaces))

-- A GOOD KEY TABLE has at most 14,085 bytes.
pub key_table_short : (t : KeyTable) → GoodKeyTable t → length (key_table_bytes t) ≤ 14085
unfolding key_table_bytes
key_table_short t g =
    let c = section_bytes key_access_bytes t.accesses in
    let d = section_bytes key_delegation_bytes t.delegations in
    let q : length c ≤ 2 + 15 * length t.accesses = section_short key_access_bytes 15 t.accesses (omega (arith, g.few_accesses)) (λ i x e. key_access_short x (g.accesses i x e)) in
    let r : length d ≤ 2 + 20 * length t.delegations = section_short key_delegation_bytes 20 t.delegations (omega (arith, g.few_delegations)) (λ i x e. key_delegation_short x (g.delegations i x e)) in
    omega (arith, one 0 (omega arith), q, r, g.few_accesses, g.few_delegations, length-append (bytes_of 0) (c ++ d), length-append c d)
