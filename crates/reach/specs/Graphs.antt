-- The records of a setting as a graph: a node stands for a key, an edge for a delegation that a node's key wrote to a node's key.
use Rattle.std.specs.Prelude.{◌≡◌, List, [], ℕ, suc, ◌<◌, ◌≤◌, length}
use Rattle.rules.specs.Lists.{◌▷◌}
use Rattle.rules.specs.Depths.{top}
use Rattle.rules.specs.Sheets.{entry}
use Rattle.rules.specs.Access.{Setting}
use Rattle.rules.specs.declared.Key.{Key}

module _ (Y : Setting) where
  -- Access record number `i` gives the key access at the depth.
  pub record RootTo (i : ℕ) (k : Key) (d : ℕ) : Type 0 where
    pub name : Y.Name
    pub root : Y.Root i name d
    pub means : Y.Means name k

  -- The holder of the first key wrote delegation number `j`, to a name that means the second.
  pub record WroteTo (j : ℕ) (k k' : Key) (d : ℕ) : Type 0 where
    pub name : Y.Name
    pub wrote : Y.Wrote j k name d
    pub means : Y.Means name k'

-- Which node stands for which key.
abbrev pub Nodes : Type 1
Nodes = ℕ → Key → Type 0

module _ (Y : Setting) (Node : Nodes) where
  -- Edge `e` stands for the delegation with its number.
  pub record Edge (from to depths numbers : List ℕ) (e : ℕ) : Type 0 where
    pub writer : Key
    pub delegatee : Key
    pub wrote : WroteTo Y (entry numbers e) writer delegatee (entry depths e)
    pub from_node : Node (entry from e) writer
    pub to_node : Node (entry to e) delegatee

  -- The edges stand for the delegations from a node to a node, among the first `i`.
  pub record Drawn (i : ℕ) (from to depths numbers : List ℕ) : Type 0 where
    pub same_to : length to ≡ length from
    pub same_depths : length depths ≡ length from
    pub same_numbers : length numbers ≡ length from
    pub sound : (e : ℕ) → e < length from → Edge from to depths numbers e
    pub all : (j d u v : ℕ) (k k' : Key) → j < i → WroteTo Y j k k' d → Node u k → Node v k' → (e : ℕ) × (e < length from) × (entry from e ≡ u) × (entry to e ≡ v) × (entry depths e ≡ d)

  -- Each node has the greatest code that the first `i` access records give it, and the number of the one that gives it.
  pub record Given (i : ℕ) (best roots : List ℕ) : Type 0 where
    pub codes : (v : ℕ) → entry best v ≤ suc top
    pub sound : (v d : ℕ) → entry best v ≡ suc d → (k : Key) × RootTo Y (entry roots v) k d × Node v k
    pub all : (j d v : ℕ) (k : Key) → j < i → RootTo Y j k d → Node v k → suc d ≤ entry best v

  -- THE GRAPH of a setting: a key has one node at most, and every writer has one.
  pub record Graph (accesses delegations : ℕ) (from to depths numbers start roots : List ℕ) : Type 0 where
    pub few_accesses : (i d : ℕ) (n : Y.Name) → Y.Root i n d → i < accesses
    pub few_delegations : (j d : ℕ) (k : Key) (n : Y.Name) → Y.Wrote j k n d → j < delegations
    pub one_node : (u v : ℕ) (k : Key) → Node u k → Node v k → u ≡ v
    pub only_key : (v : ℕ) (k k' : Key) → Node v k → Node v k' → k ≡ k'
    pub writers : (j d : ℕ) (k : Key) (n : Y.Name) → Y.Wrote j k n d → (v : ℕ) × Node v k
    pub drawn : Drawn delegations from to depths numbers
    pub given : Given accesses start roots

-- The chain that is found by going from a node back along the edges that gave the codes, to one that has its code from an access record.
pub data Traced (from numbers start best roots by : List ℕ) : ℕ → ℕ → List ℕ → Type 0 where
  given : {v : ℕ} → entry best v ≡ entry start v → Traced from numbers start best roots by v (entry roots v) []
  onward : {v i : ℕ} {c : List ℕ} → (entry best v ≡ entry start v → ⊥) → Traced from numbers start best roots by (entry from (entry by v)) i c
      → Traced from numbers start best roots by v i (c ▷ entry numbers (entry by v))
