-- What is reached over edges: nodes are numbers, and an edge, by its number, goes from a node to a node, with a depth.
-- A code is 0 for no access, and d + 1 for access at d.
use Rattle.std.specs.Prelude.{◌≡◌, List, ℕ, suc, ◌<◌, ◌≤◌, length}
use Rattle.rules.specs.Depths.{top, step_code}
use Rattle.rules.specs.Sheets.{entry}

-- As many edges as 16 bits can number, between so many nodes.
pub record Edges (from to depths : List ℕ) (nodes : ℕ) : Type 0 where
  pub few : length from ≤ 65536
  pub same_to : length to ≡ length from
  pub same_depths : length depths ≡ length from
  pub from_node : (e : ℕ) → e < length from → entry from e < nodes
  pub to_node : (e : ℕ) → e < length from → entry to e < nodes

-- Codes of depths, and room for the edge of each.
pub record Lent (best by : List ℕ) : Type 0 where
  pub codes : (v : ℕ) → entry best v ≤ suc top
  pub room : length best ≤ length by

module _ (from to depths : List ℕ) where
  -- What the edge gives: a step from the code of the node that it goes from.
  abbrev pub gives : List ℕ → ℕ → ℕ
  gives best e = step_code (entry best (entry from e)) (entry depths e)

  -- Why a node has its code: it was given at the start, or an edge to the node gives as much.
  pub data Why (start best : List ℕ) (v : ℕ) : ℕ → Type 0 where
    given : {e : ℕ} → entry best v ≡ entry start v → Why start best v e
    by_edge : {e : ℕ} → e < length from → entry to e ≡ v → 0 < entry best v → entry best v ≤ gives best e → Why start best v e

  -- No edge gives more than the node has.
  pub record Closed (best : List ℕ) : Type 0 where
    pub closed : (e : ℕ) → e < length from → gives best e ≤ entry best (entry to e)

  -- Codes that rose from those at the start, each with its reason.
  pub record Risen (start best by : List ℕ) : Type 0 where
    pub size : length best ≡ length start
    pub lent : Lent best by
    pub more : (v : ℕ) → entry start v ≤ entry best v
    pub why : (v : ℕ) → Why start best v (entry by v)

  -- THE GREATEST: codes that rose from those at the start, until no edge gives more.
  pub record Reached (start best by : List ℕ) : Type 0 where
    pub risen : Risen start best by
    pub rest : Closed best
