-- What the checker's steps find.
use Rattle.std.specs.Prelude.{◌≡◌, Option, Bool, true, false, List, [], ℕ, ◌-◌, ◌<◌, length}
use Rattle.rules.specs.Lists.{NoneTwice}
use Rattle.rules.specs.Ranges.{most_accesses}
use Rattle.rules.specs.Tables.{Asked, NameTable, Table}
use Rattle.rules.specs.Depths.{Step}
use Rattle.rules.specs.Access.{Name, Writes, Chain, setting_by}
use Rattle.rules.specs.Sheets.{entry}
use Rattle.rules.specs.Derivations.{Ordered}
use Rattle.rules.specs.Filling.{Filling}
use Rattle.rules.specs.declared.Key.{Key}
use Rattle.rules.specs.declared.Space.{Space}
use Rattle.records.specs.Parsed.{got}
use Rattle.records.specs.Fields.{field}
use Rattle.records.specs.Many.{many}
use Rattle.records.specs.DerivationBytes.{listed_number, chain_number}
use Rattle.matching.specs.Matching.{told, Gives}
use Rattle.matching.specs.declared.Given.{Given}

-- Nothing is entered yet.
pub record Blank (t : NameTable) (sheet : List ℕ) : Type 0 where
  pub zero : (i : ℕ) → i < length t.bindings → entry sheet i ≡ 0

-- The numbers of bindings that stand from a place on.
pub record Listed (s : List ℕ) (from count : ℕ) (L : List ℕ) : Type 0 where
  pub end : ℕ
  pub reads : many listed_number count [] s from ≡ got L end
  pub size : length L ≡ count
  pub none_twice : NoneTwice L

-- All of them are entered, each after those that its target needs; or they are in no such order.
pub data Enters (t : NameTable) (L sheet : List ℕ) : Bool → Type 0 where
  all : Filling t sheet L → Enters t L sheet true
  unordered : (Ordered t L → ⊥) → Enters t L sheet false

abbrev pub EntersAll : NameTable → List ℕ → ℕ → ℕ → List ℕ → Bool → Type 0
EntersAll t s from count sheet r = (L : List ℕ) → Listed s from count L → Enters t L sheet r

-- The number of an access record, and of delegations behind it.
pub record Chained (s : List ℕ) (from count access : ℕ) (delegations : List ℕ) : Type 0 where
  pub middle : ℕ
  pub first : field 0 (most_accesses - 1) s from ≡ got access middle
  pub end : ℕ
  pub others : many chain_number count [] s middle ≡ got delegations end
  pub size : length delegations ≡ count

-- The chain gives the key access at the depth: its last name leads to the key.
pub record ChainTo (t : Table) (sheet : List ℕ) (q : Asked Space) (access : ℕ) (delegations : List ℕ) (k : Key) (d : ℕ) : Type 0 where
  pub last : Name
  pub chain : Chain (setting_by (told t sheet) t q) access delegations last d
  pub leads : told t sheet last.space last.path k

abbrev pub WalksAll : Table → List ℕ → Asked Space → List ℕ → ℕ → ℕ → Option Given → Type 0
WalksAll t sheet q s from count r = (access : ℕ) (delegations : List ℕ) → Chained s from count access delegations → Gives (ChainTo t sheet q access delegations) r

-- One step of a chain, from the holder of a key with its depth: delegation number `j` is by that holder, and its delegatee's name leads to the key.
pub record StepTo (t : Table) (sheet : List ℕ) (q : Asked Space) (j : ℕ) (holder : Key) (a : ℕ) (k : Key) (r : ℕ) : Type 0 where
  pub name : Name
  pub depth : ℕ
  pub writes : Writes (told t sheet) t q j holder name depth
  pub step : Step a depth r
  pub leads : told t sheet name.space name.path k

-- The numbers of delegations that stand from a place on.
pub record Numbered (s : List ℕ) (from count : ℕ) (delegations : List ℕ) : Type 0 where
  pub end : ℕ
  pub reads : many chain_number count [] s from ≡ got delegations end
  pub size : length delegations ≡ count

-- From a chain's first record on, which gave the holder its depth.
abbrev pub GoesOn : Table → List ℕ → Asked Space → List ℕ → ℕ → ℕ → Key → ℕ → Option Given → Type 0
GoesOn t sheet q s from count holder d r =
    (access : ℕ) (delegations : List ℕ) → Numbered s from count delegations → ChainTo t sheet q access [] holder d → Gives (ChainTo t sheet q access delegations) r
