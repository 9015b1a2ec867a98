-- Which records are for a request, and to which keys.
use Rattle.std.specs.Prelude.{Option, Some, None, List, ℕ}
use Rattle.rules.specs.Tables.{Asked, Table}
use Rattle.rules.specs.Access.{Meaning, Name, Lists, Writes}
use Rattle.rules.specs.Following.{InSheet, NameLeads}
use Rattle.rules.specs.declared.Key.{Key}
use Rattle.rules.specs.declared.Space.{Space}
use Rattle.records.specs.declared.fields.Use.{Use}
use Rattle.matching.specs.declared.Given.{Given}
use Rattle.matching.specs.declared.Handed.{Handed}

-- What a sheet tells of names.
abbrev pub told : Table → List ℕ → Meaning
told t sheet S p k = NameLeads t.names (InSheet t.names sheet) S p k

-- What is asked for.
abbrev pub asked_of : Space → Use → Asked Space
asked_of owner wanted = record { owner = owner; object = wanted.object; right = wanted.right }

-- Access record number `i` gives the key access at the depth: it is the owner's, for the object and right, and its name leads to the key.
pub record GivesTo (t : Table) (sheet : List ℕ) (q : Asked Space) (i : ℕ) (k : Key) (d : ℕ) : Type 0 where
  pub name : Name
  pub lists : Lists t q i name d
  pub leads : told t sheet name.space name.path k

-- The space hands on access, by delegation number `j`, to the key at the depth: the delegation is for the object and right, its owner path leads to the
-- owner's key, and its delegatee's name to the key.
pub record HandsOn (t : Table) (sheet : List ℕ) (q : Asked Space) (j : ℕ) (S : Space) (k : Key) (d : ℕ) : Type 0 where
  pub path : List ℕ
  pub writer : Key
  pub writes : Writes (told t sheet) t q j writer (record { space = S; path = path }) d
  pub leads : told t sheet S path k

-- What is found: it fits, or nothing does.
pub data Gives (P : Key → ℕ → Type 0) : Option Given → Type 0 where
  to : (g : Given) → P g.to g.depth.0 → Gives P (Some g)
  not_given : ((k : Key) (d : ℕ) → P k d → ⊥) → Gives P None

pub data Hands (P : Space → Key → ℕ → Type 0) : Option Handed → Type 0 where
  on : (h : Handed) → P h.writer h.to h.depth.0 → Hands P (Some h)
  not_handed : ((S : Space) (k : Key) (d : ℕ) → P S k d → ⊥) → Hands P None
