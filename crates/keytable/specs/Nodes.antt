-- Nodes: numbers from 0 for keys, so that a key is found without looking through all of them. They are spread over 64 slots.
use Rattle.std.specs.Prelude.{◌≡◌, List, ℕ, suc, ◌+◌, ◌/◌, ◌%◌, ◌<◌, ◌≤◌, length, Option, Some, None}
use Rattle.rules.specs.Ranges.{most_delegations}
use Rattle.rules.specs.Sheets.{entry}
use Rattle.rules.specs.declared.Key.{Key}

abbrev pub slots : ℕ
slots = 64

-- The subject's node, and one for the writer of each delegation.
abbrev pub most_nodes : ℕ
most_nodes = suc most_delegations

-- A row of nothing but 0.
abbrev pub Empty : List ℕ → Type 0
Empty l = (i : ℕ) → entry l i ≡ 0

-- The slot of a key: keys that differ in their low bits only, or in the next ones only, are spread too.
abbrev pub slot : ℕ → ℕ
slot k = (k / 4096 + k / 64 + k % 64) % slots

-- Node `v` stands for the key.
pub record IsNode (nodes : List ℕ) (v : ℕ) (k : Key) : Type 0 where
  pub there : v < length nodes
  pub is : entry nodes v ≡ k.0

abbrev pub HasNode : List ℕ → Key → Type 0
HasNode nodes k = (v : ℕ) × IsNode nodes v k

-- No key stands twice.
abbrev pub Apart : List ℕ → Type 0
Apart nodes = (u v : ℕ) → u < length nodes → v < length nodes → entry nodes u ≡ entry nodes v → u ≡ v

-- `x` leads to the nodes of the slot that are below `n`: it is one more than the last of them, or 0.
pub record Leads (nodes : List ℕ) (n s x : ℕ) : Type 0 where
  pub most : x ≤ n
  pub there : (v : ℕ) → x ≡ suc v → slot (entry nodes v) ≡ s
  pub all : (v : ℕ) → v < n → slot (entry nodes v) ≡ s → v < x

-- Nodes, no key twice. Of each slot it is told what leads to its nodes, and of each node what leads to those before it in its slot.
pub record Nodes (nodes heads nexts : List ℕ) : Type 0 where
  pub one_each : length heads ≡ slots
  pub room : length nodes ≤ length nexts
  pub apart : Apart nodes
  pub first : (s : ℕ) → s < slots → Leads nodes (length nodes) s (entry heads s)
  pub next : (v : ℕ) → v < length nodes → Leads nodes v (slot (entry nodes v)) (entry nexts v)

-- The node of the key, or none.
pub data FindsNode (nodes : List ℕ) (k : Key) : Option ℕ → Type 0 where
  node : {v : ℕ} → IsNode nodes v k → FindsNode nodes k (Some v)
  nobody : (HasNode nodes k → ⊥) → FindsNode nodes k None

-- More nodes, perhaps: those that were there still stand for their keys, and no key stands twice.
pub record Grown (before nodes : List ℕ) : Type 0 where
  pub apart : Apart nodes
  pub kept : (v : ℕ) (k : Key) → IsNode before v k → IsNode nodes v k

-- The same of rows, with what leads to the nodes.
pub record GrownRows (before nodes heads nexts : List ℕ) : Type 0 where
  pub are : Nodes nodes heads nexts
  pub kept : (v : ℕ) (k : Key) → IsNode before v k → IsNode nodes v k
