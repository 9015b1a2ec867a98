-- Derivations: what a reviewer is handed with a grant, and when one holds.
use Rattle.std.specs.Prelude.{List, [], ◌∷◌, ℕ, ◌≤◌, length}
use Rattle.std.proofs.Math.Option.{Option, none, some}
use Rattle.std.proofs.Math.ListN.{get_elem?}
use Rattle.rules.specs.Lists.{At, ◌▷◌, In, NoneTwice}
use Rattle.rules.specs.Depths.{top}
use Rattle.rules.specs.Tables.{Binding, AccessRecord, Delegation, NameTable, Table, Request}
use Rattle.rules.specs.Names.{Means, TargetMeans, Through, TargetThrough}
use Rattle.rules.specs.Access.{Name, Chain, setting_by}
use Rattle.rules.specs.declared.Key.{Key}

-- Numbers of bindings; the chain: the number of an access record, then numbers of delegations.
pub record Derivation : Type 0 where
  pub bindings : List ℕ
  pub access : ℕ
  pub delegations : List ℕ

-- ---- meaning from listed bindings only
abbrev pub with_some {ℓ} : {A : Type ℓ} → Option A → List A → List A
with_some none l = l
with_some (some x) l = x ∷ l

-- The elements that have the listed numbers.
abbrev pub chosen {ℓ} : {A : Type ℓ} → List A → List ℕ → List A
chosen l [] = []
chosen l (i ∷ L) = with_some (get_elem? l i) (chosen l L)

-- The table that has the listed bindings and no others.
abbrev pub only : NameTable → List ℕ → NameTable
only t L = record { spaces = t.spaces; bindings = chosen t.bindings L }

-- The target of binding number `i` gets its meaning from the bindings of `L`.
pub record MeansFrom (t : NameTable) (L : List ℕ) (i : ℕ) : Type 0 where
  pub binding : Binding
  pub at : At t.bindings i binding
  pub key : Key
  pub means : TargetMeans (only t L) binding.target key

-- Each binding's target gets its meaning from bindings listed before it, those of `before` among them.
abbrev pub OrderedAfter : NameTable → List ℕ → List ℕ → Type 0
OrderedAfter t before [] = Unit {0}
OrderedAfter t before (i ∷ L) = MeansFrom t before i × OrderedAfter t (before ▷ i) L

abbrev pub Ordered : NameTable → List ℕ → Type 0
Ordered t L = OrderedAfter t [] L

-- THE DERIVATION HOLDS, at the depth `d`.
pub record Holds (t : Table) (r : Request) (v : Derivation) (d : ℕ) : Type 0 where
  -- Each listed binding's target gets its meaning from bindings listed before it; none is listed twice.
  pub ordered : Ordered t.names v.bindings
  pub none_twice : NoneTwice v.bindings
  -- The subject and every path used by the chain get theirs from the listed ones; the chain follows the rules.
  pub key : Key
  pub subject : TargetMeans (only t.names v.bindings) r.subject key
  pub last : Name
  pub chain : Chain (setting_by (Means (only t.names v.bindings)) t r.asked) v.access v.delegations last d
  -- Its last name means the subject's key.
  pub meets : Means (only t.names v.bindings) last.space last.path key

-- Something in the derivation goes through binding number `i`: the subject, a listed binding, or a path of the chain.
pub data Used (t : Table) (r : Request) (v : Derivation) (i : ℕ) : Type 0 where
  by_subject : TargetThrough t.names r.subject i → Used t r v i
  by_binding : {j : ℕ} {x : Binding} → In v.bindings j → At t.names.bindings j x → TargetThrough t.names x.target i → Used t r v i
  by_access : {x : AccessRecord} → At t.accesses v.access x → Through t.names x.owner x.path i → Used t r v i
  by_owner_path : {j : ℕ} {x : Delegation} → In v.delegations j → At t.delegations j x → Through t.names x.writer x.owner_path i → Used t r v i
  by_delegatee_path : {j : ℕ} {x : Delegation} → In v.delegations j → At t.delegations j x → Through t.names x.writer x.delegatee_path i
      → Used t r v i

-- Nothing in the derivation is idle.
abbrev pub NoneIdle : Table → Request → Derivation → Type 0
NoneIdle t r v = (i : ℕ) → In v.bindings i → Used t r v i

-- What comes with a grant: a derivation that holds at its depth, with at most 16 chain records and nothing idle.
pub record Shown (t : Table) (r : Request) (d : ℕ) : Type 0 where
  pub derivation : Derivation
  pub holds : Holds t r derivation d
  pub none_idle : NoneIdle t r derivation
  pub short : length derivation.delegations ≤ top
