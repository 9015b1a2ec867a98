-- The name sheet, computed: rounds in place over the bindings, until one changes nothing.
use Rattle.std.specs.Prelude.{Bool, ◌&&◌, List, [], ◌∷◌, ℕ, zero, suc, eqb, length, set, replicate}
use Rattle.std.proofs.Math.Option.{Option, none, some, bind, map}
use Rattle.std.proofs.Math.ListN.{get_elem?}
use Rattle.rules.specs.Choice.{pick}
use Rattle.rules.specs.Tables.{Path, Target, to_key, to_name, Binding, NameTable}
use Rattle.rules.specs.Names.{opener}
use Rattle.rules.specs.Sheets.{entry}
use Rattle.rules.specs.declared.Key.{Key}
use Rattle.rules.specs.declared.Space.{Space}

-- The first number at which the test passes.
unfoldable pub find {ℓ} : {A : Type ℓ} → (A → Bool) → List A → Option ℕ
find f [] = none
find f (x ∷ l) = pick (f x) (some 0) (map suc (find f l))

-- The number of the space that has the key; of the binding that the space opens for the base name.
abbrev pub has_key : Key → Key → Bool
has_key k s = eqb s.0 k.0

abbrev pub is_for : Space → ℕ → Binding → Bool
is_for T b x = eqb x.space.0 (opener T b).0 && eqb x.base b

-- An entry as a key: 0 is none.
abbrev pub key_of : ℕ → Option Key
key_of zero = none
key_of (suc n) = some (record { 0 = suc n })

abbrev pub number_of : Option Key → ℕ
number_of none = 0
number_of (some k) = k.0

-- ---- following by a sheet
unfoldable pub opened : NameTable → List ℕ → Key → ℕ → Option Key
opened t sheet k b = bind (find (has_key k) t.spaces) (λ s. bind (find (is_for (record { 0 = s }) b) t.bindings) (λ i. key_of (entry sheet i)))

unfoldable pub followed : NameTable → List ℕ → Key → Path → Option Key
followed t sheet k [] = some k
followed t sheet k (b ∷ p) = bind (opened t sheet k b) (λ m. followed t sheet m p)

unfoldable pub target_key : NameTable → List ℕ → Target → Option Key
target_key t sheet (to_key k) = some k
target_key t sheet (to_name S p) = bind (get_elem? t.spaces S.0) (λ k. followed t sheet k p)

-- ---- filling: an entry that is not 0 stays
abbrev pub kept : ℕ → ℕ → ℕ
kept zero v = v
kept (suc x) v = suc x

unfoldable pub filled_one : NameTable → List ℕ → ℕ → List ℕ
filled_one t sheet i = set sheet i (kept (entry sheet i) (number_of (bind (get_elem? t.bindings i) (λ x. target_key t sheet x.target))))

-- A round over the first so many bindings.
abbrev pub round_to : NameTable → List ℕ → ℕ → List ℕ
round_to t sheet zero = sheet
round_to t sheet (suc i) = filled_one t (round_to t sheet i) i

abbrev pub round : NameTable → List ℕ → List ℕ
round t sheet = round_to t sheet (length t.bindings)

abbrev pub rounds : NameTable → ℕ → List ℕ → List ℕ
rounds t zero sheet = sheet
rounds t (suc n) sheet = rounds t n (round t sheet)

-- Every round but the last fills an entry, so there are no more rounds than bindings.
abbrev pub sheet_of : NameTable → List ℕ
sheet_of t = rounds t (length t.bindings) (replicate (length t.bindings) 0)

-- The measure of the filling: how many entries are still 0.
abbrev pub empty : List ℕ → ℕ
empty [] = zero
empty (zero ∷ l) = suc (empty l)
empty (suc x ∷ l) = empty l
