-- The greatest codes over the records that match are what the key rules give: each code comes from a chain, and no chain gives more.
use mathlib.Core.Path.{◌≡◌, refl, sym, ◌∙◌, ap, subst}
use mathlib.Core.List.{List, []}
use Prim.Native.Nat.{ℕ, zero, suc, ◌+◌, ◌<◌, ◌≤◌}
use native.Mathlib.Nat.{le_refl, le_of_suc-le-suc, not-suc-le-zero}
use native.Mathlib.Omega.{arith}
use lib.ListN.{length}
use Rattle.rules.specs.Lists.{◌▷◌}
use Rattle.rules.specs.Depths.{top, Step, step_code}
use Rattle.rules.specs.Sheets.{entry}
use Rattle.rules.specs.Access.{Setting, Granted, Chain, first, next}
use Rattle.rules.specs.KeyTables.{KeyTable, KeyRequest, key_setting}
use Rattle.rules.specs.Verdicts.{DecidesByKeys, greatest, nothing}
use Rattle.rules.specs.Greatest.{verdict_of}
use Rattle.rules.specs.declared.Key.{Key}
use Rattle.rules.proofs.DepthsLaws.{fits, step_more, code_of_step, step_of_code}
use Rattle.rules.proofs.AccessLaws.{access_to, chain→access}
use Rattle.rules.proofs.GreatestLaws.{ClosedDepths, account_greatest}
use Rattle.reach.specs.Edges.{froms, tos, depths_of}
use Rattle.reach.specs.Reached.{Edges, gives, Why, given, by_edge, Reached}
use Rattle.reach.proofs.EdgesLaws.{froms_length}
use Rattle.keytable.specs.Nodes.{IsNode, HasNode}
use Rattle.keytable.specs.Matching.{Edge, Matched, MatchedOf}
use Rattle.keytable.proofs.MatchingLaws.{one_node_lem, one_key}

-- The edges that stand for delegations lead from node to node.
pub matched_edges : (K : KeyTable) (r : KeyRequest) (edges best : List ℕ) → MatchedOf K r edges best → length edges ≤ 65536 → Edges (froms edges) (tos edges) (depths_of edges) (length best)
matched_edges K r edges best m h = record {
  few = omega (arith, h, froms_length edges);
  same_to = m.drawn.same_to;
  same_depths = m.drawn.same_depths;
  from_node = λ e b. omega (arith, (m.drawn.sound e b).from_node.there, m.few);
  to_node = λ e b. omega (arith, (m.drawn.sound e b).to_node.there, m.few);
}

module _ (K : KeyTable) (r : KeyRequest) (from to depths start best by : List ℕ) (m : Matched K r from to depths start) (w : Reached from to depths start best by) where
  abbrev Y : Setting
  Y = key_setting K r.asked

  -- A chain gives the key as much, or more.
  abbrev ByChain : Key → ℕ → Type 0
  ByChain k d = (i : ℕ) × (c : List ℕ) × (a : ℕ) × Chain Y i c k a × (d ≤ a)

  -- One delegation more.
  chain_more : (j a d b : ℕ) (k k' : Key) → Y.Wrote j k k' d → Step a d b → ByChain k a → ByChain k' b
  chain_more j a d b k k' x s (i, c, e, h, l) = let t = step_more a e d b l s in (i, c ▷ j, t.0, next h refl x t.1, t.2)

  as_much : (k : Key) (a d : ℕ) → d ≤ a → ByChain k a → ByChain k d
  as_much k a d h (i, c, e, g, l) = (i, c, e, g, omega (arith, h, l))

  -- ---- each code comes from a chain: by the edge that gave it, from a node with a greater code
  by_chain : (left v d : ℕ) (k : Key) → IsNode m.nodes v k → entry best v ≡ suc d → top < d + left → ByChain k d
  by_chain zero v d k n e h = absurd (omega (arith, w.risen.lent.codes v, e))
  by_chain (suc left) v d k n e h = go (entry by v) (w.risen.why v) (λ u a k n e h. by_chain left u a k n e h)
    where
      go : (x : ℕ) → Why from to depths start best v x → ((u a : ℕ) (k : Key) → IsNode m.nodes u k → entry best u ≡ suc a → top < a + left → ByChain k a) → ByChain k d
      go x (given q) earlier =
          let s = m.given.sound v d (sym q ∙ e) in
          (s.0, [], d, first (subst (λ (y : Key). Y.Root s.0 y d) (one_key s.3 n) s.2), le_refl d)
      go x (by_edge there is some more) earlier = onward (m.drawn.sound x there) (gives from to depths best x) refl
        where
          onward : Edge K r.asked m.nodes from to depths x → (c : ℕ) → gives from to depths best x ≡ c → ByChain k d
          onward g zero q = absurd (omega (arith, e, more, q))
          onward g (suc b) q =
              let s = step_of_code (entry best (entry from x)) (entry depths x) b q in
              let o = earlier (entry from x) s.0 g.writer g.from_node s.1 (omega (arith, s.2, e, more, q, h)) in
              let k' : g.delegatee ≡ k = one_key (subst (λ (y : ℕ). IsNode m.nodes y g.delegatee) is g.to_node) n in
              as_much k b d (omega (arith, e, more, q)) (subst (λ (y : Key). ByChain y b) k' (chain_more g.number s.0 (entry depths x) b g.writer g.delegatee g.wrote s.2 o))

  code_granted : (v d : ℕ) (k : Key) → IsNode m.nodes v k → entry best v ≡ suc d → Granted Y k d
  code_granted v d k n e =
      let c = by_chain (suc top) v d k n e (omega arith) in
      record { name = k; access = access_to Y c.4 (chain→access Y fits c.3); means = refl }

  -- ---- no chain gives more
  abbrev Told : Key → ℕ → Type 0
  Told k d = (v : ℕ) × IsNode m.nodes v k × (entry best v ≡ suc d)

  told_at_least : (v d : ℕ) (k : Key) → IsNode m.nodes v k → suc d ≤ entry best v → (a : ℕ) × Told k a × (d ≤ a)
  told_at_least v d k n h = go (entry best v) refl
    where
      go : (c : ℕ) → entry best v ≡ c → (a : ℕ) × Told k a × (d ≤ a)
      go zero e = absurd (omega (arith, h, e))
      go (suc a) e = (a, (v, n, e), omega (arith, h, e))

  told_closed : ClosedDepths Y (HasNode m.nodes) Told
  told_closed = record { writers = λ j d k k' x. m.writers.writers j d k k' x.there x; roots = roots; steps = steps }
    where
      roots : (i d : ℕ) (k n : Key) → Y.Root i n d → n ≡ k → HasNode m.nodes k → (a : ℕ) × Told k a × (d ≤ a)
      roots i d k n x e (v, u) =
          told_at_least v d k u (omega (arith, m.given.all i d v k x.there (subst (λ (y : Key). Y.Root i y d) e x) u, w.risen.more v))

      steps : (j a d b : ℕ) (k k' n : Key) → Told k a → Y.Wrote j k n d → n ≡ k' → HasNode m.nodes k' → Step a d b → (b' : ℕ) × Told k' b' × (b ≤ b')
      steps j a d b k k' n (u, i, e) x z (v, l) s =
          let g = m.drawn.all j d u v k k' x.there (subst (λ (y : Key). Y.Wrote j k y d) z x) i l in
          let c : step_code (entry best u) d ≤ entry best v = rw (g.2, g.3, g.4) at (w.rest.closed g.0 g.1) in
          told_at_least v b k' l (omega (arith, c, ap (λ (y : ℕ). step_code y d) e, code_of_step a d b s))

  -- THE CODE OF NODE 0 SETTLES THE REQUEST.
  pub settled : DecidesByKeys K r (verdict_of (entry best 0))
  settled = go (entry best 0) refl
    where
      most : (d : ℕ) → Granted Y r.subject d → (a : ℕ) × Told r.subject a × (d ≤ a)
      most d g = account_greatest Y (HasNode m.nodes) Told told_closed fits r.subject d (0, m.subject) g

      code : (d : ℕ) → Granted Y r.subject d → suc d ≤ entry best 0
      code d g =
          let t = most d g in
          let z : t.1.0 ≡ 0 = one_node_lem m.apart t.1.1 m.subject in
          omega (arith, ap (entry best) z, t.1.2, t.2)

      go : (c : ℕ) → entry best 0 ≡ c → DecidesByKeys K r (verdict_of c)
      go zero e = nothing (λ d g. not-suc-le-zero (rw e at (code d g)))
      go (suc d) e = greatest (code_granted 0 d r.subject m.subject e) (λ f g. le_of_suc-le-suc (rw e at (code f g)))
