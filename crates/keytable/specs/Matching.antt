-- The records that match a request, as edges between nodes: each node stands for a key, each edge for a delegation.
use Rattle.std.specs.Prelude.{◌≡◌, List, ℕ, suc, ◌<◌, ◌≤◌, length, set}
use Rattle.rules.specs.Lists.{◌▷◌}
use Rattle.rules.specs.Depths.{top}
use Rattle.rules.specs.Sheets.{entry}
use Rattle.rules.specs.Tables.{Asked}
use Rattle.rules.specs.KeyTables.{KeyAccess, KeyDelegation, KeyTable, KeyRequest, key_setting}
use Rattle.rules.specs.declared.Key.{Key}
use Rattle.records.specs.declared.requests.KeyRequest.{KeyRequest as KeyRequestValue}
use Rattle.reach.specs.Edges.{froms, tos, depths_of}
use Rattle.keytable.specs.Nodes.{IsNode, HasNode, Apart}

-- The key request that code holds.
abbrev pub key_request_of : KeyRequestValue → KeyRequest
key_request_of r = record { subject = r.subject; asked = record { owner = r.owner; object = r.wanted.object; right = r.wanted.right } }

-- A record for this owner, object and right is for what is asked.
pub record IsFor (q : Asked Key) (owner : Key) (object right : ℕ) : Type 0 where
  pub same_owner : owner ≡ q.owner
  pub same_object : object ≡ q.object
  pub same_right : right ≡ q.right

abbrev pub AccessMatches : Asked Key → KeyAccess → Type 0
AccessMatches q x = IsFor q x.owner x.object x.right

abbrev pub DelegationMatches : Asked Key → KeyDelegation → Type 0
DelegationMatches q x = IsFor q x.owner x.object x.right

-- ---- one record
module _ (q : Asked Key) (nodes : List ℕ) where
  -- If the delegation matches, its writer has a node.
  abbrev pub WriterHas : KeyDelegation → Type 0
  WriterHas x = DelegationMatches q x → HasNode nodes x.writer

  -- A delegation that matches, from a node to a node, is one more edge.
  pub data EdgeTurn (x : KeyDelegation) (from to depths : List ℕ) : List ℕ → List ℕ → List ℕ → Type 0 where
    drawn : {u v : ℕ} → DelegationMatches q x → IsNode nodes u x.writer → IsNode nodes v x.delegatee
        → EdgeTurn x from to depths (from ▷ u) (to ▷ v) (depths ▷ x.depth)
    left : (DelegationMatches q x → HasNode nodes x.writer → HasNode nodes x.delegatee → ⊥) → EdgeTurn x from to depths from to depths

  -- An access record that matches gives its subject's node at least its code.
  pub data CodeTurn (x : KeyAccess) (best : List ℕ) : List ℕ → Type 0 where
    given : {v : ℕ} → AccessMatches q x → IsNode nodes v x.subject → entry best v < suc x.depth → CodeTurn x best (set best v (suc x.depth))
    enough : ((v : ℕ) → AccessMatches q x → IsNode nodes v x.subject → suc x.depth ≤ entry best v) → CodeTurn x best best

-- ---- the first so many records
module _ (K : KeyTable) (q : Asked Key) (nodes : List ℕ) where
  -- Whoever wrote one of the first `i` delegations, if it matches, has a node.
  pub record Writers (i : ℕ) : Type 0 where
    pub writers : (j d : ℕ) (k k' : Key) → j < i → (key_setting K q).Wrote j k k' d → HasNode nodes k

  -- Edge `e` stands for a delegation that matches.
  pub record Edge (from to depths : List ℕ) (e : ℕ) : Type 0 where
    pub number : ℕ
    pub writer : Key
    pub delegatee : Key
    pub wrote : (key_setting K q).Wrote number writer delegatee (entry depths e)
    pub from_node : IsNode nodes (entry from e) writer
    pub to_node : IsNode nodes (entry to e) delegatee

  -- The edges stand for the delegations that match and go from a node to a node, among the first `i`.
  pub record Drawn (i : ℕ) (from to depths : List ℕ) : Type 0 where
    pub same_to : length to ≡ length from
    pub same_depths : length depths ≡ length from
    pub sound : (e : ℕ) → e < length from → Edge from to depths e
    pub all : (j d u v : ℕ) (k k' : Key) → j < i → (key_setting K q).Wrote j k k' d → IsNode nodes u k → IsNode nodes v k'
        → (e : ℕ) × (e < length from) × (entry from e ≡ u) × (entry to e ≡ v) × (entry depths e ≡ d)

  -- Each node has the greatest code that the access records that match give it, among the first `i`.
  pub record Given (i : ℕ) (best : List ℕ) : Type 0 where
    pub codes : (v : ℕ) → entry best v ≤ suc top
    pub sound : (v d : ℕ) → entry best v ≡ suc d → (j : ℕ) × (k : Key) × (key_setting K q).Root j k d × IsNode nodes v k
    pub all : (j d v : ℕ) (k : Key) → j < i → (key_setting K q).Root j k d → IsNode nodes v k → suc d ≤ entry best v

-- ALL RECORDS THAT MATCH: nodes for the subject and for every writer, the delegations between them, and the codes that they are given at the start.
pub record Matched (K : KeyTable) (r : KeyRequest) (from to depths best : List ℕ) : Type 0 where
  pub nodes : List ℕ
  pub few : length nodes ≤ length best
  pub apart : Apart nodes
  pub subject : IsNode nodes 0 r.subject
  pub writers : Writers K r.asked nodes (length K.delegations)
  pub drawn : Drawn K r.asked nodes (length K.delegations) from to depths
  pub given : Given K r.asked nodes (length K.accesses) best

-- ---- the same of edges that are numbers
abbrev pub EdgeTurnOf : Asked Key → List ℕ → KeyDelegation → List ℕ → List ℕ → Type 0
EdgeTurnOf q nodes x edges edges' = EdgeTurn q nodes x (froms edges) (tos edges) (depths_of edges) (froms edges') (tos edges') (depths_of edges')

abbrev pub DrawnOf : KeyTable → Asked Key → List ℕ → ℕ → List ℕ → Type 0
DrawnOf K q nodes i edges = Drawn K q nodes i (froms edges) (tos edges) (depths_of edges)

abbrev pub MatchedOf : KeyTable → KeyRequest → List ℕ → List ℕ → Type 0
MatchedOf K r edges best = Matched K r (froms edges) (tos edges) (depths_of edges) best
