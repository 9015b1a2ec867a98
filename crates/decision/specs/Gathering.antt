-- The graph of a request's records: a node for each space and for the subject.
use Rattle.std.specs.Prelude.{List, ℕ, length, Option, Some, None}
use Rattle.rules.specs.Tables.{Asked, Table}
use Rattle.rules.specs.Names.{IsSelf}
use Rattle.rules.specs.Access.{setting_by}
use Rattle.rules.specs.declared.Key.{Key}
use Rattle.rules.specs.declared.Space.{Space}
use Rattle.matching.specs.Matching.{told}
use Rattle.reach.specs.Edges.{froms, tos, depths_of, numbers_of}
use Rattle.reach.specs.Graphs.{Given, Drawn}

-- Node `v` stands for the key: it is the key's space, or, for a subject without one, the number behind all spaces.
pub data IsNode (spaces : List Key) (subject : Key) : ℕ → Key → Type 0 where
  space : {S : Space} {k : Key} → IsSelf spaces S k → IsNode spaces subject S.0 k
  stranger : ((S : Space) → IsSelf spaces S subject → ⊥) → IsNode spaces subject (length spaces) subject

-- The node of the key, or none.
pub data FindsNode (spaces : List Key) (subject k : Key) : Option ℕ → Type 0 where
  node : {v : ℕ} → IsNode spaces subject v k → FindsNode spaces subject k (Some v)
  nobody : ((v : ℕ) → IsNode spaces subject v k → ⊥) → FindsNode spaces subject k None

-- The codes that the first `i` access records give, and by which; the edges that the first `j` delegations are.
abbrev pub GivenSo : Table → List ℕ → Asked Space → Key → ℕ → List ℕ → List ℕ → Type 0
GivenSo t sheet q subject i best roots = Given (setting_by (told t sheet) t q) (IsNode t.names.spaces subject) i best roots

abbrev pub DrawnSo : Table → List ℕ → Asked Space → Key → ℕ → List ℕ → Type 0
DrawnSo t sheet q subject j edges = Drawn (setting_by (told t sheet) t q) (IsNode t.names.spaces subject) j (froms edges) (tos edges) (depths_of edges) (numbers_of edges)
