-- The specimen table of the scope paper, and what is to hold of it.
use Rattle.std.specs.Prelude.{List, [], ◌∷◌, ℕ}
use Rattle.rules.specs.Tables.{Target, to_key, to_name, Binding, Table, Request}
use Rattle.rules.specs.Sheets.{Exact}
use Rattle.rules.specs.Derivations.{Derivation, Holds}
use Rattle.rules.specs.Verdicts.{Verdict, granted, unnamed, denied, Decides}
use Rattle.rules.specs.declared.Key.{Key}
use Rattle.rules.specs.declared.Space.{Space}

abbrev key : ℕ → Key
key n = record { 0 = n }

abbrev space : ℕ → Space
space n = record { 0 = n }

abbrev binding : ℕ → ℕ → Target → Binding
binding s b g = record { space = space s; base = b; target = g }

-- Spaces 0, 1, 2 have keys 10, 20, 30.
unfoldable pub specimen : Table
specimen = record {
  names = record {
    spaces = key 10 ∷ key 20 ∷ key 30 ∷ [];
    bindings = binding 0 1 (to_key (key 20)) ∷ binding 1 2 (to_name (space 2) []) ∷ binding 0 3 (to_name (space 0) (1 ∷ 2 ∷ [])) ∷ binding 2 4 (to_key (key 40))
        ∷ binding 0 5 (to_name (space 0) (5 ∷ [])) ∷ binding 1 6 (to_key (key 10)) ∷ [];
  };
  accesses = record { owner = space 0; object = 7; right = 2; path = 1 ∷ []; depth = 1 } ∷ record { owner = space 0; object = 7; right = 3; path = 3 ∷ []; depth = 0 } ∷ [];
  delegations = record { writer = space 1; owner_path = 6 ∷ []; object = 7; right = 2; delegatee_path = 2 ∷ 4 ∷ []; depth = 3 } ∷ [];
}

-- Requests are for owner space 0, object 7.
abbrev asks : Target → ℕ → Request
asks g right = record { subject = g; asked = record { owner = space 0; object = 7; right = right } }

abbrev shows : List ℕ → ℕ → List ℕ → Derivation
shows bindings access delegations = record { bindings = bindings; access = access; delegations = delegations }

pub data Row : Type 0 where
  the_sheet : List ℕ → Row
  decided : Request → Verdict → Row
  accepted : Request → Derivation → ℕ → Row
  refused : Request → Derivation → Row

-- What a row says.
abbrev pub Says : Row → Type 0
Says (the_sheet s) = Exact specimen.names s
Says (decided r v) = Decides specimen r v
Says (accepted r v d) = Holds specimen r v d
Says (refused r v) = (d : ℕ) → Holds specimen r v d → ⊥

abbrev pub rows : List Row
rows =
    -- P1 Sheet: 20, 30, 30, 40, 0, 10.
    the_sheet (20 ∷ 30 ∷ 30 ∷ 40 ∷ 0 ∷ 10 ∷ [])
    -- P2 key 20, right 2: granted, depth 1. Derivation `01 00 01 00` is accepted.
    ∷ decided (asks (to_key (key 20)) 2) (granted 1)
    ∷ accepted (asks (to_key (key 20)) 2) (shows (0 ∷ []) 0 []) 1
    -- P3 key 40, right 2: granted, depth 0. `04 00 01 03 05 02 00 00` is accepted.
    ∷ decided (asks (to_key (key 40)) 2) (granted 0)
    ∷ accepted (asks (to_key (key 40)) 2) (shows (0 ∷ 1 ∷ 3 ∷ 5 ∷ []) 0 (0 ∷ [])) 0
    -- P4 The same without binding 5, `03 00 01 03 02 00 00`: 12.
    ∷ refused (asks (to_key (key 40)) 2) (shows (0 ∷ 1 ∷ 3 ∷ []) 0 (0 ∷ []))
    -- P5 key 40, right 3: Denied.
    ∷ decided (asks (to_key (key 40)) 3) denied
    -- P6 subject path 3 in space 0, right 3: granted, depth 0.
    ∷ decided (asks (to_name (space 0) (3 ∷ [])) 3) (granted 0)
    -- P7 subject path 5 in space 0, right 3: Unnamed.
    ∷ decided (asks (to_name (space 0) (5 ∷ [])) 3) unnamed
    -- P8 key 10, right 2: Denied.
    ∷ decided (asks (to_key (key 10)) 2) denied
    ∷ []

abbrev pub AllSay : List Row → Type 0
AllSay [] = Unit {0}
AllSay (x ∷ l) = Says x × AllSay l
