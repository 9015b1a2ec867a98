-- A record matches if its owner, object and right are those that are asked; then the rules know it, and only then.
use mathlib.Core.Path.{◌≡◌, refl, sym, ◌∙◌, ap, subst}
use mathlib.Core.Bool.{Bool, true, false}
use mathlib.Core.List.{List}
use Rattle.std.specs.Prelude.{Option, Some, None}
use Prim.Native.Nat.{ℕ, suc, ◌+◌, ◌<◌, ◌≤◌}
use native.Mathlib.Omega.{arith}
use native.Mathlib.Decide.{ℕ_discrete}
use borrow.Author.Tests.{eq-eqb, ne_eqb}
use lib.ListN.{length, take, set}
use Rattle.rules.specs.Lists.{At, ◌▷◌}
use Rattle.rules.specs.Depths.{top}
use Rattle.rules.specs.Sheets.{entry}
use Rattle.rules.specs.Tables.{Asked}
use Rattle.rules.specs.KeyTables.{KeyAccess, KeyDelegation, KeyTable, key_setting}
use Rattle.rules.specs.declared.Key.{Key}
use Rattle.rules.proofs.ListsLaws.{at_one}
use Rattle.reach.specs.Edges.{edge_of}
use Rattle.reach.proofs.EdgesLaws.{froms_more, tos_more, depths_more}
use Rattle.keytable.specs.Keeping.{is_asked}
use Rattle.keytable.specs.Nodes.{IsNode, HasNode, Apart, FindsNode, node, nobody}
use Rattle.keytable.specs.Matching.{IsFor, EdgeTurnOf, drawn, left, CodeTurn, given, enough}
use Rattle.keytable.proofs.RowsLaws.{written_last}

pub same_key : {k m : Key} → k.0 ≡ m.0 → k ≡ m
same_key e = λ i. record { 0 = e i }

-- ---- whether a record is for what is asked
module _ (q : Asked Key) (owner : Key) (object right : ℕ) where
  pub asks_all : owner.0 ≡ q.owner.0 → object ≡ q.object → right ≡ q.right → true ≡ is_asked q owner object right
  unfolding is_asked
  asks_all a b c = rw (eq-eqb owner.0 q.owner.0 a, eq-eqb object q.object b, eq-eqb right q.right c) refl

  pub other_owner : (owner.0 ≡ q.owner.0 → ⊥) → false ≡ is_asked q owner object right
  unfolding is_asked
  other_owner n = rw (ne_eqb owner.0 q.owner.0 n) refl

  pub other_object : owner.0 ≡ q.owner.0 → (object ≡ q.object → ⊥) → false ≡ is_asked q owner object right
  unfolding is_asked
  other_object a n = rw (eq-eqb owner.0 q.owner.0 a, ne_eqb object q.object n) refl

  pub other_right : owner.0 ≡ q.owner.0 → object ≡ q.object → (right ≡ q.right → ⊥) → false ≡ is_asked q owner object right
  unfolding is_asked
  other_right a b n = rw (eq-eqb owner.0 q.owner.0 a, eq-eqb object q.object b, ne_eqb right q.right n) refl

  pub for_asked : IsFor q owner object right → true ≡ is_asked q owner object right
  for_asked w = asks_all (ap (λ (k : Key). k.0) w.same_owner) w.same_object w.same_right

  pub asks_yes : {b : Bool} → b ≡ is_asked q owner object right → b ≡ true → IsFor q owner object right
  unfolding is_asked
  asks_yes e h = go (ℕ_discrete owner.0 q.owner.0) (ℕ_discrete object q.object) (ℕ_discrete right q.right)
    where
      never : false ≡ is_asked q owner object right → IsFor q owner object right
      never f = let g : true ≡ false = sym h ∙ e ∙ sym f in let z : ◌≡◌ {A = ℕ} 0 1 = cc g in absurd (omega arith)

      go : Dec (owner.0 ≡ q.owner.0) → Dec (object ≡ q.object) → Dec (right ≡ q.right) → IsFor q owner object right
      go (yes a) (yes b) (yes c) = record { same_owner = same_key a; same_object = b; same_right = c }
      go (yes a) (yes b) (no n) = never (other_right a b n)
      go (yes a) (no n) _ = never (other_object a n)
      go (no n) _ _ = never (other_owner n)

  pub asks_no : {b : Bool} → b ≡ is_asked q owner object right → b ≡ false → IsFor q owner object right → ⊥
  asks_no e h w = let g : true ≡ false = for_asked w ∙ sym e ∙ h in let z : ◌≡◌ {A = ℕ} 0 1 = cc g in absurd (omega arith)

-- ---- the records that match are those that the rules know
module _ (K : KeyTable) (q : Asked Key) where
  pub for_wrote : (j : ℕ) (x : KeyDelegation) → At K.delegations j x → IsFor q x.owner x.object x.right → (key_setting K q).Wrote j x.writer x.delegatee x.depth
  for_wrote j x a w =
      let e : x ≡ record { writer = x.writer; owner = q.owner; object = q.object; right = q.right; delegatee = x.delegatee; depth = x.depth } =
      λ i. record { writer = x.writer; owner = w.same_owner i; object = w.same_object i; right = w.same_right i; delegatee = x.delegatee; depth = x.depth } in
      subst (At K.delegations j) e a

  pub wrote_for : (j d : ℕ) (k k' : Key) (x : KeyDelegation) → At K.delegations j x → (key_setting K q).Wrote j k k' d
      → IsFor q x.owner x.object x.right × (x.writer ≡ k) × (x.delegatee ≡ k') × (x.depth ≡ d)
  wrote_for j d k k' x a b =
      let e = at_one a b in (
        record { same_owner = ap (λ (y : KeyDelegation). y.owner) e; same_object = ap (λ (y : KeyDelegation). y.object) e; same_right = ap (λ (y : KeyDelegation). y.right) e },
        ap (λ (y : KeyDelegation). y.writer) e,
        ap (λ (y : KeyDelegation). y.delegatee) e,
        ap (λ (y : KeyDelegation). y.depth) e,
      )

  pub for_root : (j : ℕ) (x : KeyAccess) → At K.accesses j x → IsFor q x.owner x.object x.right → (key_setting K q).Root j x.subject x.depth
  for_root j x a w =
      let e : x ≡ record { owner = q.owner; object = q.object; right = q.right; subject = x.subject; depth = x.depth } =
      λ i. record { owner = w.same_owner i; object = w.same_object i; right = w.same_right i; subject = x.subject; depth = x.depth } in
      subst (At K.accesses j) e a

  pub root_for : (j d : ℕ) (k : Key) (x : KeyAccess) → At K.accesses j x → (key_setting K q).Root j k d → IsFor q x.owner x.object x.right × (x.subject ≡ k) × (x.depth ≡ d)
  root_for j d k x a b =
      let e = at_one a b in (
        record { same_owner = ap (λ (y : KeyAccess). y.owner) e; same_object = ap (λ (y : KeyAccess). y.object) e; same_right = ap (λ (y : KeyAccess). y.right) e },
        ap (λ (y : KeyAccess). y.subject) e,
        ap (λ (y : KeyAccess). y.depth) e,
      )

-- ---- nodes, as they were looked for
pub one_node_lem : {nodes : List ℕ} {u v : ℕ} {k : Key} → Apart nodes → IsNode nodes u k → IsNode nodes v k → u ≡ v
one_node_lem {u = u} {v = v} apart a b = apart u v a.there b.there (a.is ∙ sym b.is)

pub one_key : {nodes : List ℕ} {v : ℕ} {k m : Key} → IsNode nodes v k → IsNode nodes v m → k ≡ m
one_key a b = same_key (sym a.is ∙ b.is)

module _ (nodes : List ℕ) (k : Key) (r : Option ℕ) (f : FindsNode nodes k r) where
  pub node_found : (v : ℕ) → r ≡ Some v → IsNode nodes v k
  node_found v e = go r f e
    where
      go : (r : Option ℕ) → FindsNode nodes k r → r ≡ Some v → IsNode nodes v k
      go _ (node {v = u} i) e = let q : u ≡ v = cc in subst (λ (y : ℕ). IsNode nodes y k) q i
      go _ (nobody n) e = let z : ◌≡◌ {A = ℕ} 0 1 = cc in absurd (omega arith)

  pub node_missed : r ≡ None → HasNode nodes k → ⊥
  node_missed e = go r f e
    where
      go : (r : Option ℕ) → FindsNode nodes k r → r ≡ None → HasNode nodes k → ⊥
      go _ (node i) e = let z : ◌≡◌ {A = ℕ} 0 1 = cc in absurd (omega arith)
      go _ (nobody n) e = n

-- ---- one delegation, as code takes it
module _ (q : Asked Key) (nodes : List ℕ) (x : KeyDelegation) (edges : List ℕ) (m : ℕ) where
  abbrev pub EdgeTaken : List ℕ → ℕ → Type 0
  EdgeTaken edges' r = EdgeTurnOf q nodes x (take m edges) (take r edges')

  module _ (b : Bool) (is-asked : b ≡ is_asked q x.owner x.object x.right) where
    pub edge_other : b ≡ false → EdgeTaken edges m
    edge_other e = left (λ w u v. asks_no q x.owner x.object x.right is-asked e w)

    module _ (r : Option ℕ) (first : FindsNode nodes x.writer r) where
      pub edge_from_nobody : r ≡ None → EdgeTaken edges m
      edge_from_nobody e = left (λ w u v. node_missed nodes x.writer r first e u)

      module _ (t : Option ℕ) (second : FindsNode nodes x.delegatee t) where
        pub edge_to_nobody : t ≡ None → EdgeTaken edges m
        edge_to_nobody e = left (λ w u v. node_missed nodes x.delegatee t second e v)

        module _ (e : b ≡ true) (u v d n : ℕ) (i : r ≡ Some u) (j : t ≡ Some v) (g : d ≡ x.depth) (is : n ≡ edge_of u v d 0) (few : length nodes ≤ 640) (small : x.depth ≤ top)
            (h : m < length edges) where
          from_node_lem : IsNode nodes u x.writer
          from_node_lem = node_found nodes x.writer r first u i

          to_node_lem : IsNode nodes v x.delegatee
          to_node_lem = node_found nodes x.delegatee t second v j

          row : take (m + 1) (set edges m n) ≡ take m edges ▷ edge_of u v x.depth 0
          row = written_last edges m n h ∙ ap (λ (y : ℕ). take m edges ▷ y) (is ∙ ap (λ (y : ℕ). edge_of u v y 0) g)

          pub edge_drawn : EdgeTaken (set edges m n) (m + 1)
          edge_drawn =
              let f : u < 640 = omega (arith, few, from_node_lem.there) in
              let k : v < 640 = omega (arith, few, to_node_lem.there) in
              let l : x.depth < 16 = omega (arith, small) in
              subst (EdgeTurnOf q nodes x (take m edges)) (sym row)
              (rw (froms_more (take m edges) u v x.depth 0 f k l, tos_more (take m edges) u v x.depth 0 f k l, depths_more (take m edges) u v x.depth 0 f k l)
              (drawn (asks_yes q x.owner x.object x.right is-asked e) from_node_lem to_node_lem))

-- ---- one access record, as code takes it
module _ (q : Asked Key) (nodes : List ℕ) (x : KeyAccess) (best : List ℕ) (b : Bool) (is : b ≡ is_asked q x.owner x.object x.right) where
  pub code_other : b ≡ false → CodeTurn q nodes x best best
  code_other e = enough (λ v w i. absurd (asks_no q x.owner x.object x.right is e w))

  module _ (r : Option ℕ) (f : FindsNode nodes x.subject r) where
    pub code_nobody : r ≡ None → CodeTurn q nodes x best best
    code_nobody e = enough (λ v w i. absurd (node_missed nodes x.subject r f e (v, i)))

    module _ (v c : ℕ) (at : r ≡ Some v) (g : c ≡ suc x.depth) where
      pub code_enough : Apart nodes → c ≤ entry best v → CodeTurn q nodes x best best
      code_enough apart h =
          enough (λ u w i. let e : u ≡ v = one_node_lem apart i (node_found nodes x.subject r f v at) in rw e (omega (arith, h, g)))

      pub code_given : b ≡ true → entry best v < c → CodeTurn q nodes x best (set best v c)
      code_given e h = rw g (given (asks_yes q x.owner x.object x.right is e) (node_found nodes x.subject r f v at) (omega (arith, h, g)))
