-- Whether a derivation holds, and at which depth, computed: names are resolved by the listed bindings alone, in their order.
use Rattle.std.specs.Prelude.{Bool, true, false, ◌&&◌, List, [], ◌∷◌, ℕ, zero, suc, eqb, length, set, replicate}
use Rattle.std.proofs.Math.Option.{Option, none, some, bind}
use Rattle.std.proofs.Math.ListN.{get_elem?}
use Rattle.rules.specs.Depths.{step_code}
use Rattle.rules.specs.Tables.{to_name, NameTable, Table, Asked, Request}
use Rattle.rules.specs.Sheets.{entry}
use Rattle.rules.specs.Rounds.{target_key}
use Rattle.rules.specs.Access.{Name}
use Rattle.rules.specs.Derivations.{Derivation}
use Rattle.rules.specs.declared.Key.{Key}
use Rattle.rules.specs.declared.Space.{Space}

-- The answer, provided that the test passes.
abbrev pub provided {ℓ} : {A : Type ℓ} → Bool → Option A → Option A
provided true o = o
provided false o = none

abbrev pub depth_of : ℕ → Option ℕ
depth_of zero = none
depth_of (suc d) = some d

-- The sheet with the listed bindings entered, each once its target leads to a key by those before it.
unfoldable pub entered : NameTable → List ℕ → List ℕ → Option (List ℕ)
entered t sheet [] = some sheet
entered t sheet (i ∷ L) =
    provided (eqb (entry sheet i) 0) (bind (get_elem? t.bindings i) (λ x. bind (target_key t sheet x.target) (λ k. entered t (set sheet i k.0) L)))

-- How far a chain has come.
pub record Reach : Type 0 where
  pub name : Name
  pub depth : ℕ

unfoldable pub root_reach : Table → Asked Space → ℕ → Option Reach
root_reach t q i =
    bind (get_elem? t.accesses i) (λ x.
    provided (eqb x.owner.0 q.owner.0 && (eqb x.object q.object && eqb x.right q.right))
    (some (record { name = record { space = x.owner; path = x.path }; depth = x.depth })))

-- Delegation number `j`, if it is by the holder of `k`.
unfoldable pub wrote_reach : Table → List ℕ → Asked Space → ℕ → Key → Option Reach
wrote_reach t sheet q j k =
    bind (get_elem? t.delegations j) (λ x.
    bind (get_elem? t.names.spaces x.writer.0) (λ writer.
    bind (get_elem? t.names.spaces q.owner.0) (λ owner.
    bind (target_key t.names sheet (to_name x.writer x.owner_path)) (λ named.
    provided (eqb writer.0 k.0 && (eqb named.0 owner.0 && (eqb x.object q.object && eqb x.right q.right)))
    (some (record { name = record { space = x.writer; path = x.delegatee_path }; depth = x.depth }))))))

unfoldable pub name_key : NameTable → List ℕ → Name → Option Key
name_key t sheet n = target_key t sheet (to_name n.space n.path)

unfoldable pub gone_on : Table → List ℕ → Asked Space → Reach → List ℕ → Option Reach
gone_on t sheet q s [] = some s
gone_on t sheet q s (j ∷ c) =
    bind (name_key t.names sheet s.name) (λ k.
    bind (wrote_reach t sheet q j k) (λ w.
    bind (depth_of (step_code (suc s.depth) w.depth)) (λ d.
    gone_on t sheet q (record { name = w.name; depth = d }) c)))

-- THE DEPTH AT WHICH THE DERIVATION HOLDS, or nothing.
unfoldable pub holds_at : Table → Request → Derivation → Option ℕ
holds_at t r v =
    bind (entered t.names (replicate (length t.names.bindings) 0) v.bindings) (λ sheet.
    bind (target_key t.names sheet r.subject) (λ k.
    bind (root_reach t r.asked v.access) (λ s.
    bind (gone_on t sheet r.asked s v.delegations) (λ e.
    bind (name_key t.names sheet e.name) (λ m.
    provided (eqb m.0 k.0) (some e.depth))))))
