-- Record after record: what holds of the first so many records holds of one more.
use mathlib.Core.Path.{◌≡◌, refl, sym, ◌∙◌, ap, subst}
use mathlib.Core.List.{List, []}
use Prim.Native.Nat.{ℕ, suc, ◌+◌, ◌<◌, ◌≤◌}
use native.Mathlib.Omega.{arith}
use native.Mathlib.Decide.{ℕ_discrete}
use lib.ListN.{length, set}
use lib.Seq.{get_or-set_same, get_or-set_other}
use Rattle.rules.specs.Lists.{At, ◌▷◌}
use Rattle.rules.specs.Depths.{top}
use Rattle.rules.specs.Sheets.{entry}
use Rattle.rules.specs.Tables.{Asked}
use Rattle.rules.specs.KeyTables.{KeyAccess, KeyDelegation, KeyTable, KeyRequest, key_setting}
use Rattle.rules.specs.declared.Key.{Key}
use Rattle.reach.specs.Edges.{froms, tos, depths_of}
use Rattle.keytable.specs.Nodes.{Empty, IsNode, HasNode, Apart, Grown}
use Rattle.keytable.specs.Matching.{WriterHas, EdgeTurn, drawn, left, CodeTurn, given, enough, Writers, Edge, Drawn, Given, Matched, DrawnOf}
use Rattle.keytable.proofs.RowsLaws.{longer, entry_before, entry_last}
use Rattle.keytable.proofs.NodesLaws.{first_node}
use Rattle.keytable.proofs.MatchingLaws.{one_node_lem, for_wrote, wrote_for, for_root, root_for}

module _ (K : KeyTable) (q : Asked Key) where
  -- ---- writers
  writers_more : (nodes nodes' : List ℕ) (i : ℕ) (x : KeyDelegation) → At K.delegations i x → Writers K q nodes i → Grown nodes nodes' → WriterHas q nodes' x
      → Writers K q nodes' (i + 1)
  writers_more nodes nodes' i x a w g has = record { writers = λ j d k k' h z. go j d k k' h z (ℕ_discrete j i) }
    where
      go : (j d : ℕ) (k k' : Key) → j < i + 1 → (key_setting K q).Wrote j k k' d → Dec (j ≡ i) → HasNode nodes' k
      go j d k k' h z (yes e) =
          let r = wrote_for K q i d k k' x a (subst (λ (y : ℕ). (key_setting K q).Wrote y k k' d) e z) in
          subst (HasNode nodes') r.1 (has r.0)
      go j d k k' h z (no n) = let m = w.writers j d k k' (omega arith) z in (m.0, g.kept m.0 k m.1)

  -- The nodes so far: those that stood before, and the writers of the first `i` delegations that match.
  pub record Collecting (before nodes : List ℕ) (i : ℕ) : Type 0 where
    pub grown : Grown before nodes
    pub writers : Writers K q nodes i
    pub few : length nodes ≤ length before + i

  pub collecting_start : (nodes : List ℕ) → Apart nodes → Collecting nodes nodes 0
  collecting_start nodes w = record { grown = record { apart = w; kept = λ v k i. i }; writers = record { writers = λ j d k k' h z. absurd (omega arith) }; few = omega arith }

  pub collecting_on : (before nodes nodes' : List ℕ) (i : ℕ) (x : KeyDelegation) → At K.delegations i x → Collecting before nodes i
      → Grown nodes nodes' → WriterHas q nodes' x → length nodes' ≤ length nodes + 1 → Collecting before nodes' (i + 1)
  collecting_on before nodes nodes' i x a c g has h = record {
    grown = record { apart = g.apart; kept = λ v k j. g.kept v k (c.grown.kept v k j) };
    writers = writers_more nodes nodes' i x a c.writers g has;
    few = omega (arith, c.few, h);
  }

  module _ (nodes : List ℕ) where
    -- ---- edges
    pub drawn_none : DrawnOf K q nodes 0 []
    unfolding froms tos depths_of
    drawn_none = record { same_to = refl; same_depths = refl; sound = λ e h. absurd (omega arith); all = λ j d u v k k' h w a b. absurd (omega arith) }

    module _ (i : ℕ) (x : KeyDelegation) (at : At K.delegations i x) (from to depths : List ℕ) (w : Drawn K q nodes i from to depths) (apart : Apart nodes) where
      -- An edge stays as one more is drawn.
      edge_still : (u v c e : ℕ) → e < length from → Edge K q nodes from to depths e → Edge K q nodes (from ▷ u) (to ▷ v) (depths ▷ c) e
      edge_still u v c e h g = record {
        number = g.number;
        writer = g.writer;
        delegatee = g.delegatee;
        wrote = rw (entry_before depths c e (omega (arith, w.same_depths))) g.wrote;
        from_node = rw (entry_before from u e h) g.from_node;
        to_node = rw (entry_before to v e (omega (arith, w.same_to))) g.to_node;
      }

      pub drawn_more : (from' to' depths' : List ℕ) → EdgeTurn q nodes x from to depths from' to' depths' → Drawn K q nodes (i + 1) from' to' depths'
      drawn_more _ _ _ (left n) = record { same_to = w.same_to; same_depths = w.same_depths; sound = w.sound; all = λ j d u v k k' h z a b. go j d u v k k' h z a b (ℕ_discrete j i) }
        where
          go : (j d u v : ℕ) (k k' : Key) → j < i + 1 → (key_setting K q).Wrote j k k' d → IsNode nodes u k → IsNode nodes v k' → Dec (j ≡ i)
              → (e : ℕ) × (e < length from) × (entry from e ≡ u) × (entry to e ≡ v) × (entry depths e ≡ d)
          go j d u v k k' h z a b (yes e) =
              let r = wrote_for K q i d k k' x at (subst (λ (y : ℕ). (key_setting K q).Wrote y k k' d) e z) in
              absurd (n r.0 (u, subst (IsNode nodes u) (sym r.1) a) (v, subst (IsNode nodes v) (sym r.2) b))
          go j d u v k k' h z a b (no m) = w.all j d u v k k' (omega arith) z a b
      drawn_more _ _ _ (drawn {u = s} {v = t} f a b) = record {
        same_to = longer to t ∙ ap suc w.same_to ∙ sym (longer from s);
        same_depths = longer depths x.depth ∙ ap suc w.same_depths ∙ sym (longer from s);
        sound = λ e h. sound e h (ℕ_discrete e m);
        all = λ j d u v k k' h z g l. go j d u v k k' h z g l (ℕ_discrete j i);
      }
        where
          m : ℕ
          m = length from

          last_from : entry (from ▷ s) m ≡ s
          last_from = entry_last from s

          last_to : entry (to ▷ t) m ≡ t
          last_to = rw w.same_to at (entry_last to t)

          last_depth : entry (depths ▷ x.depth) m ≡ x.depth
          last_depth = rw w.same_depths at (entry_last depths x.depth)

          sound : (e : ℕ) → e < length (from ▷ s) → Dec (e ≡ m) → Edge K q nodes (from ▷ s) (to ▷ t) (depths ▷ x.depth) e
          sound e h (yes r) = rw r (record {
            number = i;
            writer = x.writer;
            delegatee = x.delegatee;
            wrote = rw last_depth (for_wrote K q i x at f);
            from_node = rw last_from a;
            to_node = rw last_to b;
          })
          sound e h (no n) = let l : e < m = omega (arith, h, longer from s) in edge_still s t x.depth e l (w.sound e l)

          go : (j d u v : ℕ) (k k' : Key) → j < i + 1 → (key_setting K q).Wrote j k k' d → IsNode nodes u k → IsNode nodes v k' → Dec (j ≡ i)
              → (e : ℕ) × (e < length (from ▷ s)) × (entry (from ▷ s) e ≡ u) × (entry (to ▷ t) e ≡ v) × (entry (depths ▷ x.depth) e ≡ d)
          go j d u v k k' h z g l (yes e) =
              let r = wrote_for K q i d k k' x at (subst (λ (y : ℕ). (key_setting K q).Wrote y k k' d) e z) in
              let o = one_node_lem apart (subst (IsNode nodes s) r.1 a) g in
              let p = one_node_lem apart (subst (IsNode nodes t) r.2 b) l in
              (m, omega (arith, longer from s), last_from ∙ o, last_to ∙ p, last_depth ∙ r.3)
          go j d u v k k' h z g l (no n) =
              let r = w.all j d u v k k' (omega arith) z g l in (
                r.0,
                omega (arith, longer from s, r.1),
                entry_before from s r.0 r.1 ∙ r.2,
                entry_before to t r.0 (omega (arith, w.same_to, r.1)) ∙ r.3,
                entry_before depths x.depth r.0 (omega (arith, w.same_depths, r.1)) ∙ r.4,
              )

    -- ---- codes
    pub given_none : (best : List ℕ) → Empty best → Given K q nodes 0 best
    given_none best z = record {
      codes = λ v. omega (arith, z v);
      sound = λ v d e. absurd (omega (arith, z v, e));
      all = λ j d v k h r a. absurd (omega arith);
    }

    module _ (i : ℕ) (x : KeyAccess) (at : At K.accesses i x) (small : x.depth ≤ top) (best : List ℕ) (few : length nodes ≤ length best) (w : Given K q nodes i best) (apart : Apart nodes) where
      pub given_more : (best' : List ℕ) → CodeTurn q nodes x best best' → Given K q nodes (i + 1) best'
      given_more _ (enough g) = record { codes = w.codes; sound = w.sound; all = λ j d v k h r a. go j d v k h r a (ℕ_discrete j i) }
        where
          go : (j d v : ℕ) (k : Key) → j < i + 1 → (key_setting K q).Root j k d → IsNode nodes v k → Dec (j ≡ i) → suc d ≤ entry best v
          go j d v k h r a (yes e) =
              let y = root_for K q i d k x at (subst (λ (y : ℕ). (key_setting K q).Root y k d) e r) in
              omega (arith, y.2, g v y.0 (subst (IsNode nodes v) (sym y.1) a))
          go j d v k h r a (no n) = w.all j d v k (omega arith) r a
      given_more _ (given {v = u} f b more) = record {
        codes = λ v. codes v (ℕ_discrete v u);
        sound = λ v d e. sound v d e (ℕ_discrete v u);
        all = λ j d v k h r a. go j d v k r a (ℕ_discrete j i) (λ n. w.all j d v k (omega (arith, n)) r a);
      }
        where
          c : ℕ
          c = suc x.depth

          here : entry (set best u c) u ≡ c
          here = get_or-set_same best u c 0 (omega (arith, few, b.there))

          there : (v : ℕ) → (v ≡ u → ⊥) → entry (set best u c) v ≡ entry best v
          there v n = get_or-set_other best u v c 0 n

          rises : (v : ℕ) → Dec (v ≡ u) → entry best v ≤ entry (set best u c) v
          rises v (yes e) = rw e (omega (arith, here, more))
          rises v (no n) = omega (arith, there v n)

          codes : (v : ℕ) → Dec (v ≡ u) → entry (set best u c) v ≤ suc top
          codes v (yes e) = rw e (omega (arith, here, small))
          codes v (no n) = omega (arith, there v n, w.codes v)

          sound : (v d : ℕ) → entry (set best u c) v ≡ suc d → Dec (v ≡ u) → (j : ℕ) × (k : Key) × (key_setting K q).Root j k d × IsNode nodes v k
          sound v d e (yes r) =
              let z : x.depth ≡ d = omega (arith, e, ap (entry (set best u c)) r, here) in
              (i, x.subject, subst (λ (y : ℕ). (key_setting K q).Root i x.subject y) z (for_root K q i x at f), subst (λ (y : ℕ). IsNode nodes y x.subject) (sym r) b)
          sound v d e (no n) = w.sound v d (sym (there v n) ∙ e)

          go : (j d v : ℕ) (k : Key) → (key_setting K q).Root j k d → IsNode nodes v k → Dec (j ≡ i) → ((j ≡ i → ⊥) → suc d ≤ entry best v) → suc d ≤ entry (set best u c) v
          go j d v k r a (yes e) old =
              let y = root_for K q i d k x at (subst (λ (y : ℕ). (key_setting K q).Root y k d) e r) in
              let o : v ≡ u = one_node_lem apart a (subst (IsNode nodes u) y.1 b) in
              omega (arith, y.2, here, ap (entry (set best u c)) o)
          go j d v k r a (no n) old = omega (arith, old n, rises v (ℕ_discrete v u))

-- ---- all of them
pub all_matched : (K : KeyTable) (r : KeyRequest) (first nodes : List ℕ) → length first ≤ 1 → HasNode first r.subject → Grown first nodes → Writers K r.asked nodes (length K.delegations)
    → (from to depths best : List ℕ) → length nodes ≤ length best → Drawn K r.asked nodes (length K.delegations) from to depths → Given K r.asked nodes (length K.accesses) best
    → Matched K r from to depths best
all_matched K r first nodes one has g w from to depths best few d c = record {
  nodes = nodes;
  few = few;
  apart = g.apart;
  subject = g.kept 0 r.subject (first_node first r.subject one has);
  writers = w;
  drawn = d;
  given = c;
}
