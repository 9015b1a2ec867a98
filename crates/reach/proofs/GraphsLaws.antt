-- The greatest codes of a setting's graph are what the rules give: each comes from a chain, and no chain gives more.
use mathlib.Core.Path.{◌≡◌, refl, sym, ◌∙◌, ap, subst}
use mathlib.Core.List.{List, []}
use Prim.Native.Nat.{ℕ, zero, suc, ◌+◌, ◌<◌, ◌≤◌}
use native.Mathlib.Nat.{le_refl, le_of_suc-le-suc, not-suc-le-zero}
use native.Mathlib.Omega.{arith}
use lib.ListN.{length}
use Rattle.rules.specs.Lists.{◌▷◌}
use Rattle.rules.specs.Depths.{top, Step, step_code}
use Rattle.rules.specs.Sheets.{entry}
use Rattle.rules.specs.Access.{Setting, Granted, Chain, first, next}
use Rattle.rules.specs.Verdicts.{Has, greatest, nothing}
use Rattle.rules.specs.Greatest.{verdict_of}
use Rattle.rules.specs.declared.Key.{Key}
use Rattle.rules.proofs.DepthsLaws.{Fits, step_more, code_of_step, step_of_code}
use Rattle.rules.proofs.AccessLaws.{access_to, chain→access}
use Rattle.rules.proofs.GreatestLaws.{ClosedDepths, account_greatest}
use Rattle.reach.specs.Reached.{gives, Why, given, by_edge, Reached}
use Rattle.reach.specs.Graphs.{Nodes, Edge, Graph, Traced, onward}
use Rattle.reach.specs.Graphs.{given as traced-given}

module _ (Y : Setting) (fit : Fits Y.Above) (Node : Nodes) (accesses delegations : ℕ) (from to depths numbers start roots best by : List ℕ)
    (g : Graph Y Node accesses delegations from to depths numbers start roots) (w : Reached from to depths start best by) where
  -- A chain gives the key as much, or more.
  pub record ChainFor (k : Key) (d i : ℕ) (c : List ℕ) : Type 0 where
    pub depth : ℕ
    pub name : Y.Name
    pub chain : Chain Y i c name depth
    pub means : Y.Means name k
    pub enough : d ≤ depth

  -- What an access record gives.
  from_root : (v d : ℕ) (k : Key) → Node v k → entry start v ≡ suc d → ChainFor k d (entry roots v) []
  from_root v d k n e =
      let s = g.given.sound v d e in
      let q = g.only_key v s.0 k s.2 n in
      record { depth = d; name = s.1.name; chain = first s.1.root; means = subst (Y.Means s.1.name) q s.1.means; enough = le_refl d }

  -- What an edge gives, from what its node has.
  by_edge_lem : (e v d : ℕ) (k : Key) → e < length from → entry to e ≡ v → entry best v ≡ suc d → entry best v ≤ gives from to depths best e → Node v k
      → (a : ℕ) × (u : Key) × (entry best (entry from e) ≡ suc a) × Node (entry from e) u × (d < a)
      × ((i : ℕ) (c : List ℕ) → ChainFor u a i c → ChainFor k d i (c ▷ entry numbers e))
  by_edge_lem e v d k there is h more n = go (gives from to depths best e) refl
    where
      edge : Edge Y Node from to depths numbers e
      edge = g.drawn.sound e there

      go : (x : ℕ) → gives from to depths best e ≡ x
          → (a : ℕ) × (u : Key) × (entry best (entry from e) ≡ suc a) × Node (entry from e) u × (d < a) × ((i : ℕ) (c : List ℕ) → ChainFor u a i c → ChainFor k d i (c ▷ entry numbers e))
      go zero q = absurd (omega (arith, h, more, q))
      go (suc b) q =
          let s = step_of_code (entry best (entry from e)) (entry depths e) b q in
          (s.0, edge.writer, s.1, edge.from_node, omega (arith, s.2.some, s.2.smaller, h, more, q), longer s.0 s.2)
        where
          longer : (a : ℕ) → Step a (entry depths e) b → (i : ℕ) (c : List ℕ) → ChainFor edge.writer a i c → ChainFor k d i (c ▷ entry numbers e)
          longer a st i c x =
              let m = step_more a x.depth (entry depths e) b x.enough st in
              let q' = g.only_key v edge.delegatee k (subst (λ (y : ℕ). Node y edge.delegatee) is edge.to_node) n in
              record {
                depth = m.0;
                name = edge.wrote.name;
                chain = next x.chain x.means edge.wrote.wrote m.1;
                means = subst (Y.Means edge.wrote.name) q' edge.wrote.means;
                enough = omega (arith, m.2, h, more, q);
              }

  -- ---- each code comes from a chain
  by_chain : (left v d : ℕ) (k : Key) → Node v k → entry best v ≡ suc d → top < d + left → (i : ℕ) × (c : List ℕ) × ChainFor k d i c
  by_chain zero v d k n e h = absurd (omega (arith, w.risen.lent.codes v, e))
  by_chain (suc left) v d k n e h = go (entry by v) (w.risen.why v) (λ u a k n e h. by_chain left u a k n e h)
    where
      go : (x : ℕ) → Why from to depths start best v x → ((u a : ℕ) (k : Key) → Node u k → entry best u ≡ suc a → top < a + left → (i : ℕ) × (c : List ℕ) × ChainFor k a i c)
          → (i : ℕ) × (c : List ℕ) × ChainFor k d i c
      go x (given q) earlier = (entry roots v, [], from_root v d k n (sym q ∙ e))
      go x (by_edge there is some more) earlier =
          let s = by_edge_lem x v d k there is e more n in
          let o = earlier (entry from x) s.0 s.1 s.3 s.2 (omega (arith, s.4, h)) in
          (o.0, o.1 ▷ entry numbers x, s.5 o.0 o.1 o.2)

  code_granted : (v d : ℕ) (k : Key) → Node v k → entry best v ≡ suc d → Granted Y k d
  code_granted v d k n e =
      let c = (by_chain (suc top) v d k n e (omega arith)).2 in
      record { name = c.name; access = access_to Y c.enough (chain→access Y fit c.chain); means = c.means }

  -- ---- no chain gives more
  abbrev HasNode : Key → Type 0
  HasNode k = (v : ℕ) × Node v k

  abbrev Told : Key → ℕ → Type 0
  Told k d = (v : ℕ) × Node v k × (entry best v ≡ suc d)

  told_at_least : (v d : ℕ) (k : Key) → Node v k → suc d ≤ entry best v → (a : ℕ) × Told k a × (d ≤ a)
  told_at_least v d k n h = go (entry best v) refl
    where
      go : (c : ℕ) → entry best v ≡ c → (a : ℕ) × Told k a × (d ≤ a)
      go zero e = absurd (omega (arith, h, e))
      go (suc a) e = (a, (v, n, e), omega (arith, h, e))

  told_closed : ClosedDepths Y HasNode Told
  told_closed = record { writers = λ j d k n x. g.writers j d k n x; roots = roots_told; steps = steps }
    where
      roots_told : (i d : ℕ) (k : Key) (n : Y.Name) → Y.Root i n d → Y.Means n k → HasNode k → (a : ℕ) × Told k a × (d ≤ a)
      roots_told i d k n x m (v, u) =
          told_at_least v d k u (omega (arith, g.given.all i d v k (g.few_accesses i d n x) (record { name = n; root = x; means = m }) u, w.risen.more v))

      steps : (j a d b : ℕ) (k k' : Key) (n : Y.Name) → Told k a → Y.Wrote j k n d → Y.Means n k' → HasNode k' → Step a d b → (b' : ℕ) × Told k' b' × (b ≤ b')
      steps j a d b k k' n (u, i, e) x m (v, l) s =
          let f = g.drawn.all j d u v k k' (g.few_delegations j d k n x) (record { name = n; wrote = x; means = m }) i l in
          let c : step_code (entry best u) d ≤ entry best v = rw (f.2, f.3, f.4) at (w.rest.closed f.0 f.1) in
          told_at_least v b k' l (omega (arith, c, ap (λ (y : ℕ). step_code y d) e, code_of_step a d b s))

  most : (v d : ℕ) (k : Key) → Node v k → Granted Y k d → suc d ≤ entry best v
  most v d k n x =
      let t = account_greatest Y HasNode Told told_closed fit k d (v, n) x in
      let z : t.1.0 ≡ v = g.one_node t.1.0 v k t.1.1 n in
      omega (arith, ap (entry best) z, t.1.2, t.2)

  -- THE CODE OF A NODE SETTLES WHAT ITS KEY HAS.
  pub settled : (v : ℕ) (k : Key) → Node v k → Has Y k (verdict_of (entry best v))
  settled v k n = go (entry best v) refl
    where
      go : (c : ℕ) → entry best v ≡ c → Has Y k (verdict_of c)
      go zero e = nothing (λ d x. not-suc-le-zero (rw e at (most v d k n x)))
      go (suc d) e = greatest (code_granted v d k n e) (λ f x. le_of_suc-le-suc (rw e at (most v f k n x)))

  -- ---- the chain that is traced
  traced_for : {v i : ℕ} {c : List ℕ} → Traced from numbers start best roots by v i c → (d : ℕ) (k : Key) → Node v k → entry best v ≡ suc d → ChainFor k d i c
  traced_for {v} (traced-given q) d k n e = from_root v d k n (sym q ∙ e)
  traced_for {v} {i} (onward {c = c} q t) d k n e = go (w.risen.why v) (λ a u m h. traced_for t a u m h)
    where
      go : Why from to depths start best v (entry by v) → ((a : ℕ) (u : Key) → Node (entry from (entry by v)) u → entry best (entry from (entry by v)) ≡ suc a → ChainFor u a i c)
          → ChainFor k d i (c ▷ entry numbers (entry by v))
      go (given x) rest = absurd (q x)
      go (by_edge there is some more) rest = let s = by_edge_lem (entry by v) v d k there is e more n in s.5 i c (rest s.0 s.1 s.3 s.2)

  -- IT GIVES THE GREATEST DEPTH, and no other.
  pub traced_chain : {v i : ℕ} {c : List ℕ} → Traced from numbers start best roots by v i c → (d : ℕ) (k : Key) → Node v k → entry best v ≡ suc d
      → (n : Y.Name) × Chain Y i c n d × Y.Means n k
  traced_chain {v} {i} {c} t d k n e =
      let x = traced_for t d k n e in
      let h = most v x.depth k n (record { name = x.name; access = chain→access Y fit x.chain; means = x.means }) in
      let q : x.depth ≡ d = omega (arith, h, e, x.enough) in
      (x.name, subst (Chain Y i c x.name) q x.chain, x.means)

  -- Tracing goes to a greater code.
  pub traces_on : (v d : ℕ) (k : Key) → Node v k → entry best v ≡ suc d → (entry best v ≡ entry start v → ⊥)
      → (entry by v < length from) × (entry best v < entry best (entry from (entry by v))) × ((u : Key) × Node (entry from (entry by v)) u)
  traces_on v d k n e q = go (w.risen.why v)
    where
      go : Why from to depths start best v (entry by v) → (entry by v < length from) × (entry best v < entry best (entry from (entry by v))) × ((u : Key) × Node (entry from (entry by v)) u)
      go (given x) = absurd (q x)
      go (by_edge there is some more) = let s = by_edge_lem (entry by v) v d k there is e more n in (there, omega (arith, s.2, e, s.4), (s.1, s.3))
