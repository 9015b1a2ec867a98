-- A node is found by following its slot from the last node to the first; one more node becomes the first of its slot.
use mathlib.Core.Path.{◌≡◌, sym, ◌∙◌, ap, subst}
use mathlib.Core.Bool.{false}
use mathlib.Core.List.{List, []}
use Rattle.std.specs.Prelude.{Option, Some, None, is_some}
use Prim.Native.Nat.{ℕ, suc, ◌+◌, ◌-◌, ◌<◌, ◌≤◌}
use native.Mathlib.Nat.{le_refl}
use native.Mathlib.Omega.{arith}
use native.Mathlib.Decide.{ℕ_discrete}
use lib.ListN.{length, take, set, length-set}
use lib.Seq.{get_or-set_same, get_or-set_other, length-take-le}
use Rattle.rules.specs.Lists.{◌▷◌}
use Rattle.rules.specs.Sheets.{entry}
use Rattle.rules.specs.declared.Key.{Key}
use Rattle.keytable.specs.Nodes.{slots, slot, IsNode, HasNode, Leads, Nodes, FindsNode, node, nobody, Grown, GrownRows}
use Rattle.keytable.proofs.RowsLaws.{longer, entry_before, entry_last, written_last}

-- ---- finding
-- `x` leads to the node of the key, if there is one.
pub record Seeking (nodes : List ℕ) (k x : ℕ) : Type 0 where
  pub most : x ≤ length nodes
  pub there : (v : ℕ) → x ≡ suc v → slot (entry nodes v) ≡ slot k
  pub all : (v : ℕ) → v < length nodes → entry nodes v ≡ k → v < x

module _ (nodes heads nexts : List ℕ) (w : Nodes nodes heads nexts) (k : Key) where
  pub seeking_start : (s : ℕ) → s ≡ slot k.0 → s < slots → Seeking nodes k.0 (entry heads s)
  seeking_start s e h =
      let l = w.first s h in
      record { most = l.most; there = λ v q. l.there v q ∙ e; all = λ v b q. l.all v b (ap slot q ∙ sym e) }

  module _ (x : ℕ) (sk : Seeking nodes k.0 x) (h : 0 < x) where
    pub seeking_below : x - 1 < length nodes
    seeking_below = omega (arith, sk.most)

    pub seeking_on : (entry nodes (x - 1) ≡ k.0 → ⊥) → Seeking nodes k.0 (entry nexts (x - 1))
    seeking_on n =
        let l = w.next (x - 1) seeking_below in
        let e : slot (entry nodes (x - 1)) ≡ slot k.0 = sk.there (x - 1) (omega arith) in
        record {
          most = omega (arith, l.most, sk.most);
          there = λ v q. l.there v q ∙ e;
          all = λ v b q. l.all v (before v b q (ℕ_discrete v (x - 1))) (ap slot q ∙ sym e);
        }
      where
        before : (v : ℕ) → v < length nodes → entry nodes v ≡ k.0 → Dec (v ≡ x - 1) → v < x - 1
        before v b q (yes i) = absurd (n (rw i at q))
        before v b q (no m) = omega (arith, sk.all v b q)

    pub seeking_less : entry nexts (x - 1) < x
    seeking_less = omega (arith, (w.next (x - 1) seeking_below).most)

    pub seeking_found : entry nodes (x - 1) ≡ k.0 → FindsNode nodes k (Some (x - 1))
    seeking_found e = node (record { there = seeking_below; is = e })

  pub seeking_end : (x : ℕ) → Seeking nodes k.0 x → x ≤ 0 → FindsNode nodes k None
  seeking_end x sk h = nobody (λ m. absurd (omega (arith, sk.all m.0 m.1.there m.1.is)))

-- As code takes the node before the number.
module _ (nodes heads nexts : List ℕ) (w : Nodes nodes heads nexts) (k : Key) (x : ℕ) (sk : Seeking nodes k.0 x) (h : 0 < x) where
  pub row_found : (v : ℕ) → v ≡ x - 1 → entry nodes v ≡ k.0 → FindsNode nodes k (Some v)
  row_found v is e = rw is (seeking_found nodes heads nexts w k x sk h (rw is at e))

  pub row_on : (v next : ℕ) → v ≡ x - 1 → next ≡ entry nexts v → (entry nodes v ≡ k.0 → ⊥) → Seeking nodes k.0 next
  row_on v next is leads m = rw (leads, is) (seeking_on nodes heads nexts w k x sk h (λ e. m (rw is e)))

-- ---- adding
pub nodes_none : (heads nexts : List ℕ) → length heads ≡ slots → ((s : ℕ) → s < slots → entry heads s ≡ 0) → Nodes [] heads nexts
nodes_none heads nexts e z = record {
  one_each = e;
  room = omega arith;
  apart = λ u v a b q. absurd (omega arith);
  first = λ s h. record { most = omega (arith, z s h); there = λ v q. absurd (omega (arith, z s h)); all = λ v a q. absurd (omega arith) };
  next = λ v a. absurd (omega arith);
}

pub nobody_yet : (nodes : List ℕ) (k : Key) (r : Option ℕ) → FindsNode nodes k r → false ≡ is_some r → HasNode nodes k → ⊥
nobody_yet nodes k _ (node i) e = let z : ◌≡◌ {A = ℕ} 0 1 = cc in absurd (omega arith)
nobody_yet nodes k _ (nobody n) e = n

module _ (nodes heads nexts : List ℕ) (w : Nodes nodes heads nexts) (k : Key) where
  -- Whatever leads to nodes below those that stand still does.
  leads_still : (n s x : ℕ) → n ≤ length nodes → Leads nodes n s x → Leads (nodes ▷ k.0) n s x
  leads_still n s x h l = record {
    most = l.most;
    there = λ v q. ap slot (entry_before nodes k.0 v (omega (arith, l.most))) ∙ l.there v q;
    all = λ v b q. l.all v b (sym (ap slot (entry_before nodes k.0 v (omega arith))) ∙ q);
  }

  pub one_more : (HasNode nodes k → ⊥) → length nodes < length nexts
      → Nodes (nodes ▷ k.0) (set heads (slot k.0) (length nodes + 1)) (set nexts (length nodes) (entry heads (slot k.0)))
  one_more new h = record {
    one_each = length-set heads (slot k.0) (n + 1) ∙ w.one_each;
    room = omega (arith, longer nodes k.0, length-set nexts n (entry heads (slot k.0)));
    apart = λ u v a b q. apart u v a b q (ℕ_discrete u n) (ℕ_discrete v n);
    first = λ s b. first s b (ℕ_discrete s (slot k.0));
    next = λ v b. next v b (ℕ_discrete v n);
  }
    where
      n : ℕ
      n = length nodes

      apart : (u v : ℕ) → u < length (nodes ▷ k.0) → v < length (nodes ▷ k.0) → entry (nodes ▷ k.0) u ≡ entry (nodes ▷ k.0) v → Dec (u ≡ n) → Dec (v ≡ n) → u ≡ v
      apart u v a b q (yes i) (yes j) = i ∙ sym j
      apart u v a b q (yes i) (no m) =
          let l : v < n = omega (arith, b, longer nodes k.0) in
          absurd (new (v, record { there = l; is = sym (entry_before nodes k.0 v l) ∙ sym q ∙ ap (entry (nodes ▷ k.0)) i ∙ entry_last nodes k.0 }))
      apart u v a b q (no m) (yes j) =
          let l : u < n = omega (arith, a, longer nodes k.0) in
          absurd (new (u, record { there = l; is = sym (entry_before nodes k.0 u l) ∙ q ∙ ap (entry (nodes ▷ k.0)) j ∙ entry_last nodes k.0 }))
      apart u v a b q (no m) (no o) =
          let l : u < n = omega (arith, a, longer nodes k.0) in
          let r : v < n = omega (arith, b, longer nodes k.0) in
          w.apart u v l r (sym (entry_before nodes k.0 u l) ∙ q ∙ entry_before nodes k.0 v r)

      first : (s : ℕ) → s < slots → Dec (s ≡ slot k.0) → Leads (nodes ▷ k.0) (length (nodes ▷ k.0)) s (entry (set heads (slot k.0) (n + 1)) s)
      first s b (yes i) = rw (i, get_or-set_same heads (slot k.0) (n + 1) 0 (omega (arith, w.one_each))) (record {
        most = omega (arith, longer nodes k.0);
        there = λ v q. let e : v ≡ n = omega arith in ap (λ (y : ℕ). slot (entry (nodes ▷ k.0) y)) e ∙ ap slot (entry_last nodes k.0);
        all = λ v a q. omega (arith, a, longer nodes k.0);
      })
      first s b (no m) = rw (get_or-set_other heads (slot k.0) s (n + 1) 0 m) (record {
        most = omega (arith, l.most, longer nodes k.0);
        there = l.there;
        all = λ v a q. l.all v (below v a q (ℕ_discrete v n)) q;
      })
        where
          l : Leads (nodes ▷ k.0) n s (entry heads s)
          l = leads_still n s (entry heads s) (le_refl _) (w.first s b)

          below : (v : ℕ) → v < length (nodes ▷ k.0) → slot (entry (nodes ▷ k.0) v) ≡ s → Dec (v ≡ n) → v < n
          below v a q (yes i) = absurd (m (sym q ∙ ap (λ (y : ℕ). slot (entry (nodes ▷ k.0) y)) i ∙ ap slot (entry_last nodes k.0)))
          below v a q (no o) = omega (arith, a, longer nodes k.0)

      next : (v : ℕ) → v < length (nodes ▷ k.0) → Dec (v ≡ n) → Leads (nodes ▷ k.0) v (slot (entry (nodes ▷ k.0) v)) (entry (set nexts n (entry heads (slot k.0))) v)
      next v b (yes i) = rw (i, get_or-set_same nexts n (entry heads (slot k.0)) 0 h, entry_last nodes k.0)
          (leads_still n (slot k.0) (entry heads (slot k.0)) (le_refl _) (w.first (slot k.0) (omega arith)))
      next v b (no o) =
          let l : v < n = omega (arith, b, longer nodes k.0) in
          rw (get_or-set_other nexts n v (entry heads (slot k.0)) 0 o, entry_before nodes k.0 v l) (leads_still v (slot (entry nodes v)) (entry nexts v) (omega arith) (w.next v l))

  pub still_node : (v : ℕ) (m : Key) → IsNode nodes v m → IsNode (nodes ▷ k.0) v m
  still_node v m i = record { there = omega (arith, i.there, longer nodes k.0); is = entry_before nodes k.0 v i.there ∙ i.is }

  pub has_now : HasNode (nodes ▷ k.0) k
  has_now = (length nodes, record { there = omega (arith, longer nodes k.0); is = entry_last nodes k.0 })

  pub no_more : GrownRows nodes nodes heads nexts
  no_more = record { are = w; kept = λ v m i. i }

pub grown_of : {before nodes heads nexts : List ℕ} → GrownRows before nodes heads nexts → Grown before nodes
grown_of g = record { apart = g.are.apart; kept = g.kept }

-- One node more, as code makes it.
module _ (keys heads nexts : List ℕ) (n : ℕ) (w : Nodes (take n keys) heads nexts) (k : Key) (room : n < length keys) (link : n < length nexts) where
  counted : length (take n keys) ≡ n
  counted = length-take-le n keys (omega arith)

  pub added : (HasNode (take n keys) k → ⊥) → (s : ℕ) → s ≡ slot k.0 → Nodes (take (n + 1) (set keys n k.0)) (set heads s (n + 1)) (set nexts n (entry heads s))
  added new s q = rw (q, written_last keys n k.0 room)
      (subst (λ (m : ℕ). Nodes (take n keys ▷ k.0) (set heads (slot k.0) (m + 1)) (set nexts m (entry heads (slot k.0)))) counted
      (one_more (take n keys) heads nexts w k new (omega (arith, counted, link))))

  pub added_grown : (HasNode (take n keys) k → ⊥) → (s : ℕ) → s ≡ slot k.0
      → GrownRows (take n keys) (take (n + 1) (set keys n k.0)) (set heads s (n + 1)) (set nexts n (entry heads s))
  added_grown new s q = record { are = added new s q; kept = rw (written_last keys n k.0 room) (still_node (take n keys) heads nexts w k) }

  pub added_has : HasNode (take (n + 1) (set keys n k.0)) k
  added_has = rw (written_last keys n k.0 room) (has_now (take n keys) heads nexts w k)

-- The first node of all.
pub first_node : (nodes : List ℕ) (k : Key) → length nodes ≤ 1 → HasNode nodes k → IsNode nodes 0 k
first_node nodes k h (v, i) = let e : v ≡ 0 = omega (arith, i.there) in subst (λ (y : ℕ). IsNode nodes y k) e i
