-- Records passed over while a table is read: most good ones are told so, and the others are left to their readers.
use Rattle.std.specs.Prelude.{◌≡◌, Bool, false, ◌&&◌, List, ℕ, eqb}
use Rattle.rules.specs.Tables.{Binding}
use Rattle.rules.specs.declared.Key.{Key}
use Rattle.records.specs.Parsed.{got, Reader}
use Rattle.records.specs.Bindings.{binding_record, packed}

-- A good record, and the place after it.
abbrev pub Passes : {A : Type 0} → Reader A → List ℕ → ℕ → ℕ → Type 0
Passes {A} P s at next = (x : A) × (P s at ≡ got x next)

-- A binding that is good where no name is bound, with the name that it binds, packed.
abbrev pub PassesBinding : ℕ → List ℕ → ℕ → ℕ → Type 0
PassesBinding spaces s name next = (x : Binding) × (binding_record spaces (λ S b. false) s 0 ≡ got x next) × (name ≡ packed x.space x.base)

-- Whether a key record is for this owner, object and right.
abbrev pub is_for : ℕ → ℕ → ℕ → Key → ℕ → ℕ → Bool
is_for owner object right k o r = eqb k.0 owner && (eqb o object && eqb r right)

-- A good record, the place after it, and whether it passes the test.
abbrev pub Sifts : {A : Type 0} → Reader A → (A → Bool) → List ℕ → ℕ → ℕ → Bool → Type 0
Sifts {A} P f s at next passes = (x : A) × (P s at ≡ got x next) × (passes ≡ f x)
