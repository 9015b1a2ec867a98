-- The greatest depth, computed over a key table by rounds; and with it the verdicts.
use Rattle.std.specs.Prelude.{Bool, ◌&&◌, List, [], ◌∷◌, ◌++◌, map, ℕ, zero, suc, max, eqb}
use Rattle.std.proofs.Math.Option.{Option, none, some}
use Rattle.std.proofs.Math.ListN.{get_elem?}
use Rattle.rules.specs.Choice.{pick}
use Rattle.rules.specs.Depths.{top, step_code}
use Rattle.rules.specs.Tables.{Asked, Table, Request, to_name}
use Rattle.rules.specs.Rounds.{sheet_of, target_key}
use Rattle.rules.specs.KeyTables.{KeyAccess, KeyDelegation, KeyTable, KeyRequest}
use Rattle.rules.specs.Translation.{Teller, translate}
use Rattle.rules.specs.Verdicts.{Verdict, granted, unnamed, denied}
use Rattle.rules.specs.declared.Key.{Key}

-- What a record gives: a key, with the code of a depth.
pub record Given : Type 0 where
  pub key : Key
  pub code : ℕ

-- The greatest code that the list has for the key.
abbrev pub best : List Given → Key → ℕ
best [] k = 0
best (g ∷ l) k = max (pick (eqb g.key.0 k.0) g.code 0) (best l k)

module _ (K : KeyTable) (q : Asked Key) where
  -- The record is for the owner, object and right.
  abbrev pub matches : Key → ℕ → ℕ → Bool
  matches owner object right = eqb owner.0 q.owner.0 && (eqb object q.object && eqb right q.right)

  abbrev pub by_access : KeyAccess → Given
  by_access x = record { key = x.subject; code = pick (matches x.owner x.object x.right) (suc x.depth) 0 }

  abbrev pub by_delegation : List Given → KeyDelegation → Given
  by_delegation l y = record { key = y.delegatee; code = pick (matches y.owner y.object y.right) (step_code (best l y.writer) y.depth) 0 }

  -- What chains of so many delegations give, or shorter ones.
  unfoldable pub reached : ℕ → List Given
  reached zero = map by_access K.accesses
  reached (suc n) = map by_access K.accesses ++ map (by_delegation (reached n)) K.delegations

  -- Chains have at most 16 records.
  abbrev pub greatest_code : Key → ℕ
  greatest_code k = best (reached top) k

abbrev pub verdict_of : ℕ → Verdict
verdict_of zero = denied
verdict_of (suc d) = granted d

-- THE VERDICT over a key table, computed.
abbrev pub key_verdict : KeyTable → KeyRequest → Verdict
key_verdict K r = verdict_of (greatest_code K r.asked r.subject)

-- ---- and over a table: by its translation
abbrev pub teller : Table → Teller
teller t S p = target_key t.names (sheet_of t.names) (to_name S p)

abbrev pub verdict_for : Table → Request → Option Key → Option Key → Verdict
verdict_for t r none owner = unnamed
verdict_for t r (some k) none = denied
verdict_for t r (some k) (some owner) =
    key_verdict (translate (teller t) t) (record { subject = k; asked = record { owner = owner; object = r.asked.object; right = r.asked.right } })

-- THE VERDICT over a table, computed.
abbrev pub verdict : Table → Request → Verdict
verdict t r = verdict_for t r (target_key t.names (sheet_of t.names) r.subject) (get_elem? t.names.spaces r.asked.owner.0)
