-- The codes of the graph settle what the subject has.
use mathlib.Core.Path.{◌≡◌, refl, sym, ap, subst}
use mathlib.Core.List.{List}
use Prim.Native.Nat.{ℕ, zero, suc, ◌+◌, ◌<◌, ◌≤◌}
use native.Mathlib.Omega.{arith}
use lib.ListN.{length, drop, take, replicate, length-replicate}
use lib.Seq.{length-take-le}
use Rattle.std.specs.Prelude.{Option, Some, None}
use Rattle.rules.specs.Tables.{Asked}
use Rattle.rules.specs.Depths.{top}
use Rattle.rules.specs.Ranges.{most_delegations, most_spaces}
use Rattle.rules.specs.Sheets.{entry}
use Rattle.rules.specs.Access.{Setting, setting_by}
use Rattle.rules.specs.Verdicts.{Has}
use Rattle.rules.specs.Verdicts as verdict
use Rattle.rules.specs.declared.Depth.{Depth}
use Rattle.rules.specs.Greatest.{verdict_of}
use Rattle.rules.specs.declared.Key.{Key}
use Rattle.rules.specs.declared.Space.{Space}
use Rattle.rules.proofs.DepthsLaws.{fits}
use Rattle.table.specs.ReadTable.{table_at}
use Rattle.table.specs.Finding.{keys_of}
use Rattle.sheet.proofs.MeaningLaws.{index_spaces}
use Rattle.matching.specs.Matching.{told}
use Rattle.matching.specs.Held.{Held}
use Rattle.reach.specs.Edges.{froms, tos, depths_of, numbers_of}
use Rattle.reach.specs.Reached.{Edges, Lent, Reached}
use Rattle.reach.specs.Graphs.{Graph, Traced}
use Rattle.reach.proofs.EdgesLaws.{froms_length}
use Rattle.reach.proofs.GraphsLaws.{settled, traced_chain}
use Rattle.decision.specs.Gathering.{IsNode, space, stranger, FindsNode, GivenSo, DrawnSo}
use Rattle.decision.specs.Settling.{Zeros, Settles, depth_of}
use Rattle.decision.specs.declared.settling.Settled.{Settled}
use Rattle.decision.proofs.GatheringLaws.{one_node_lem, one_key, node_below, finds_node, finds_nobody, node_here}

-- ---- the depth of a code
pub depth_code : (n : ℕ) (d : Depth) → Some d ≡ depth_of n → n ≡ suc d.0
depth_code zero d e = let y : ◌≡◌ {A = ℕ} 0 1 = cc e in absurd (omega arith)
depth_code (suc n) d e = let q : d ≡ record { 0 = n } = cc e in ap suc (sym (ap (λ (x : Depth). x.0) q))

pub some_code : (n : ℕ) (d : Depth) → Some d ≡ depth_of n → 0 < n
some_code n d e = omega (arith, depth_code n d e)

-- ---- the graph
module _ (s keys names accesses delegations : List ℕ) (held : Held s keys names accesses delegations) (sheet : List ℕ) (q : Asked Space) (subject : Key) where
  abbrev Y : Setting
  Y = setting_by (told (table_at s) sheet) (table_at s) q

  abbrev N : ℕ → Key → Type 0
  N = IsNode (table_at s).names.spaces subject

  pub given_start : (start roots : List ℕ) → Zeros start → GivenSo (table_at s) sheet q subject 0 start roots
  given_start start roots z = record {
    codes = λ v. omega (arith, z.zero v);
    sound = λ v d e. absurd (omega (arith, z.zero v, e));
    all = λ j d v k h. absurd (omega arith);
  }

  module _ (edges : List ℕ) (drawn : DrawnSo (table_at s) sheet q subject (length delegations) edges) where
    pub graph_edges : (n : ℕ) → n ≡ suc (length keys) → length edges ≤ most_delegations → Edges (froms edges) (tos edges) (depths_of edges) n
    graph_edges n e h = record {
      few = omega (arith, h, froms_length edges);
      same_to = drawn.same_to;
      same_depths = drawn.same_depths;
      from_node = λ i l. omega (arith, e, node_below (table_at s).names.spaces subject (drawn.sound i l).from_node, index_spaces (table_at s).names keys names held.index);
      to_node = λ i l. omega (arith, e, node_below (table_at s).names.spaces subject (drawn.sound i l).to_node, index_spaces (table_at s).names keys names held.index);
    }

    module _ (start roots best by : List ℕ) (given : GivenSo (table_at s) sheet q subject (length accesses) start roots) (w : Reached (froms edges) (tos edges) (depths_of edges) start best by) where
      graph : Graph Y N (length accesses) (length delegations) (froms edges) (tos edges) (depths_of edges) (numbers_of edges) start roots
      graph = record {
        few_accesses = λ i d n l. omega (arith, l.at.there, held.access_count);
        few_delegations = λ j d k n x. omega (arith, x.at.there, held.delegation_count);
        one_node = one_node_lem (table_at s).names.spaces subject held.good.names.keys_apart;
        only_key = one_key (table_at s).names.spaces subject;
        writers = λ j d k n x. (n.space.0, space x.is_self);
        drawn = drawn;
        given = given;
      }

      module _ (a : Option ℕ) (f : FindsNode (keys_of keys) subject subject a) (chain : List ℕ) where
        -- The subject has a node.
        pub always_node : a ≡ None → ⊥
        always_node e = finds_nobody (node_here s keys names accesses delegations held f) e (length (table_at s).names.spaces) (stranger (λ S x. finds_nobody (node_here s keys names accesses delegations held f) e S.0 (space x)))

        module _ (v : ℕ) (e : a ≡ Some v) where
          is : N v subject
          is = finds_node v (node_here s keys names accesses delegations held f) e

          has : Has Y subject (verdict_of (entry best v))
          has = settled Y fits N (length accesses) (length delegations) (froms edges) (tos edges) (depths_of edges) (numbers_of edges) start roots best by graph w v subject is

          pub settles_none : None ≡ depth_of (entry best v) → Settles (table_at s) sheet q subject chain None
          settles_none z = go (entry best v) z has
            where
              go : (n : ℕ) → None ≡ depth_of n → Has Y subject (verdict_of n) → Has Y subject verdict.denied
              go zero z h = h
              go (suc d) z h = let y : ◌≡◌ {A = ℕ} 0 1 = cc z in absurd (omega arith)

          pub settles_some : (r : Settled) → Some r.depth ≡ depth_of (entry best v) → Traced (froms edges) (numbers_of edges) start best roots by v r.access (drop r.first chain) × (r.first ≤ top) → Settles (table_at s) sheet q subject chain (Some r)
          settles_some r c t = record {
            most = omega (arith, code, w.risen.lent.codes v);
            has = subst (λ (n : ℕ). Has Y subject (verdict_of n)) code has;
            shown = let z = traced_chain Y fits N (length accesses) (length delegations) (froms edges) (tos edges) (depths_of edges) (numbers_of edges) start roots best by graph w t.0 r.depth.0 subject is code in
                record { name = z.0; chain = z.1; means = z.2 };
            within = t.1;
          }
            where
              code : entry best v ≡ suc r.depth.0
              code = depth_code (entry best v) r.depth c

-- ---- after the copy
pub lent_copy : (start copy by : List ℕ) → copy ≡ start → ((v : ℕ) → entry start v ≤ suc top) → length copy ≤ length by → Lent copy by
lent_copy start copy by e c h = record { codes = λ v. omega (arith, ap (λ (l : List ℕ). entry l v) e, c v); room = h }

pub reached_copy : (from to depths start copy best by : List ℕ) → copy ≡ start → Reached from to depths copy best by → Reached from to depths start best by
reached_copy from to depths start copy best by e w = subst (λ (l : List ℕ). Reached from to depths l best by) e w

-- ---- the first part of a row of nothing but 0
pub row_part : (n : ℕ) → n ≤ most_spaces → n + 1 ≡ length (take (n + 1) (replicate {A = ℕ} 65 0))
row_part n h = sym (length-take-le (n + 1) (replicate {A = ℕ} 65 0) (omega (arith, h, length-replicate {A = ℕ} 65 0)))

pub row_size : (n : ℕ) → n ≤ most_spaces → length (take (n + 1) (replicate {A = ℕ} 65 0)) ≡ suc n
row_size n h = omega (arith, row_part n h)

pub row_zeros : (n m : ℕ) → Zeros (take n (replicate {A = ℕ} m 0))
row_zeros n m = record { zero = λ v. go n m v }
  where
    go : (n m v : ℕ) → entry (take n (replicate {A = ℕ} m 0)) v ≡ 0
    go zero zero v = refl
    go zero (suc m) v = refl
    go (suc n) zero v = refl
    go (suc n) (suc m) zero = refl
    go (suc n) (suc m) (suc v) = go n m v
