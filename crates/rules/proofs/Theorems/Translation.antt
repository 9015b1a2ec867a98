-- Translation changes nothing.
use mathlib.Core.Path.{◌≡◌}
use mathlib.Core.Logic.{◌↔◌}
use mathlib.Core.List.{List}
use Prim.Native.Nat.{ℕ}
use Rattle.rules.specs.Tables.{AccessRecord, Delegation, Table, Asked, Request}
use Rattle.rules.specs.Names.{IsSelf, Means, TargetMeans}
use Rattle.rules.specs.Ranges.{Good}
use Rattle.rules.specs.Access.{Granted, setting}
use Rattle.rules.specs.KeyTables.{KeyTable, key_setting}
use Rattle.rules.specs.Translation.{Translates, translate}
use Rattle.rules.specs.Meaningless.{WithoutIdle}
use Rattle.rules.specs.Verdicts.{Grants}
use Rattle.rules.specs.Greatest.{teller}
use Rattle.rules.specs.declared.Key.{Key}
use Rattle.rules.specs.declared.Space.{Space}
use Rattle.rules.proofs.NamesLaws.{meaning_one}
use Rattle.rules.proofs.TranslationLaws.{translation_one, translation_grants}
use Rattle.rules.proofs.VerdictsLaws.{translates}
use Rattle.rules.proofs.MeaninglessLaws.{idle_gives_nothing}

-- The key rules over the translated table grant each key exactly what the rules with names grant it, at every depth, both ways.
pub translation_changes_nothing : (t : Table) → Good t → (K : KeyTable) → Translates (Means t.names) t K → (q : Asked Space) (owner : Key) → IsSelf t.names.spaces q.owner owner
    → (k : Key) (d : ℕ) → Granted (setting t q) k d ↔ Granted (key_setting K (record { owner = owner; object = q.object; right = q.right })) k d
translation_changes_nothing t good = translation_grants (Means t.names) (λ S p k k' a b. meaning_one t.names good.names a b) t good.names

-- A good table has a translation: the one that the function gives,
pub the_function_translates : (t : Table) → Good t → Translates (Means t.names) t (translate (teller t) t)
the_function_translates = translates

-- and no other.
pub a_table_has_one_translation : (t : Table) → Good t → (K L : KeyTable) → Translates (Means t.names) t K → Translates (Means t.names) t L → K ≡ L
a_table_has_one_translation t good = translation_one (Means t.names) (λ S p k k' a b. meaning_one t.names good.names a b) t

-- A record naming someone without a meaning gives access to nobody: with some or all of them taken out, each key is granted what it was,
pub idle_records_give_nothing : (t : Table) (accesses : List AccessRecord) (delegations : List Delegation)
    → WithoutIdle t (record { names = t.names; accesses = accesses; delegations = delegations }) → (q : Asked Space) (k : Key) (d : ℕ)
    → Granted (setting t q) k d ↔ Granted (setting (record { names = t.names; accesses = accesses; delegations = delegations }) q) k d
idle_records_give_nothing = idle_gives_nothing

-- also not to another such name: a subject without a meaning is granted nothing.
pub a_subject_without_a_meaning_gets_nothing : (t : Table) (r : Request) → ((k : Key) → TargetMeans t.names r.subject k → ⊥) → (d : ℕ) → Grants t r d → ⊥
a_subject_without_a_meaning_gets_nothing t r none d g = none g.key g.subject
