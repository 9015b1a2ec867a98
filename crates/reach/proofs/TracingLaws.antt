-- Going back along the edges that gave the codes: the codes rise.
use mathlib.Core.Path.{◌≡◌, refl, sym, ◌∙◌, ap, subst}
use mathlib.Core.List.{List, [], ◌∷◌, ◌++◌, append-nil, append_assoc}
use Prim.Native.Nat.{ℕ, zero, suc, ◌+◌, ◌-◌, ◌<◌, ◌≤◌, suc-le-suc}
use native.Mathlib.Nat.{le_refl, zero-lt-suc}
use native.Mathlib.Omega.{arith}
use lib.ListN.{length, drop, set, length-set, drop_of_length-le}
use lib.Seq.{drop-cons, drop-set-lt, get_or-set_same}
use Rattle.rules.specs.Lists.{◌▷◌}
use Rattle.rules.specs.Depths.{top}
use Rattle.rules.specs.Sheets.{entry}
use Rattle.rules.proofs.DepthsLaws.{step_of_code}
use Rattle.reach.specs.Edges.{from_of, number_of, froms, tos, depths_of, numbers_of}
use Rattle.reach.specs.Reached.{Edges, gives, Why, given, by_edge, Reached}
use Rattle.reach.specs.Graphs.{Traced, onward}
use Rattle.reach.specs.Graphs.{given as traced-given}
use Rattle.reach.proofs.EdgesLaws.{froms_length, froms_entry, numbers_length, numbers_entry}

-- An entry that is not 0 is there.
pub entry_there : (l : List ℕ) (v : ℕ) → 0 < entry l v → v < length l
entry_there [] v h = absurd (omega arith)
entry_there (x ∷ l) zero h = zero-lt-suc _
entry_there (x ∷ l) (suc v) h = suc-le-suc (entry_there l v h)

module _ (from to depths numbers start best roots by : List ℕ) (node : ℕ) where
  -- The trail has come to `v`; the numbers of its edges stand from `first` on.
  pub record Tracing (chain : List ℕ) (v first : ℕ) : Type 0 where
    pub size : length chain ≡ top
    pub low : first ≤ top
    pub code : top < entry best v + first
    pub so : (i : ℕ) (c : List ℕ) → Traced from numbers start best roots by v i c → Traced from numbers start best roots by node i (c ++ drop first chain)

  pub tracing_start : (chain : List ℕ) → length chain ≡ top → 0 < entry best node → Tracing chain node (length chain)
  tracing_start chain e h = record {
    size = e;
    low = omega (arith, e);
    code = omega (arith, e, h);
    so = λ i c t. subst (Traced from numbers start best roots by node i) (sym (ap (λ (l : List ℕ). c ++ l) (drop_of_length-le chain {i = length chain} (le_refl _)) ∙ append-nil c)) t;
  }

  module _ (edges : Edges from to depths (length best)) (w : Reached from to depths start best by) (chain : List ℕ) (v first : ℕ) (x : Tracing chain v first) where
    pub trace_there : v < length best
    trace_there = entry_there best v (omega (arith, x.code, x.low))

    pub trace_ends : entry best v ≡ entry start v → Traced from numbers start best roots by node (entry roots v) (drop first chain) × (first ≤ top)
    trace_ends e = (x.so (entry roots v) [] (traced-given e), x.low)

    module _ (q : entry best v ≡ entry start v → ⊥) where
      goes : (entry by v < length from) × (entry best v < entry best (entry from (entry by v)))
      goes = go (w.risen.why v)
        where
          go : Why from to depths start best v (entry by v) → (entry by v < length from) × (entry best v < entry best (entry from (entry by v)))
          go (given z) = absurd (q z)
          go (by_edge there is some more) = (there, rises (gives from to depths best (entry by v)) refl)
            where
              rises : (n : ℕ) → gives from to depths best (entry by v) ≡ n → entry best v < entry best (entry from (entry by v))
              rises zero e = absurd (omega (arith, some, more, e))
              rises (suc b) e = let s = step_of_code (entry best (entry from (entry by v))) (entry depths (entry by v)) b e in omega (arith, more, e, s.1, s.2.some, s.2.smaller)

      pub edge_there : entry by v < length from
      edge_there = goes.0

      pub room_there : 0 < first
      room_there = omega (arith, goes.1, w.risen.lent.codes (entry from (entry by v)), x.code)

      pub tracing_on : length numbers ≡ length from → Tracing (set chain (first - 1) (entry numbers (entry by v))) (entry from (entry by v)) (first - 1)
      tracing_on e = record {
        size = length-set chain (first - 1) (entry numbers (entry by v)) ∙ x.size;
        low = omega (arith, x.low);
        code = omega (arith, goes.1, x.code, room_there);
        so = λ i c t. subst (Traced from numbers start best roots by node i) (append_assoc c (entry numbers (entry by v) ∷ []) (drop first chain) ∙ ap (λ (l : List ℕ). c ++ l) (sym shown)) (x.so i (c ▷ entry numbers (entry by v)) (onward q t));
      }
        where
          shown : drop (first - 1) (set chain (first - 1) (entry numbers (entry by v))) ≡ entry numbers (entry by v) ∷ drop first chain
          shown =
              let l : first - 1 < length chain = omega (arith, x.size, x.low, room_there) in
              let l' : first - 1 < length (set chain (first - 1) (entry numbers (entry by v))) = rw (length-set chain (first - 1) (entry numbers (entry by v))) l in
              let s : suc (first - 1) ≡ first = omega (arith, room_there) in
              drop-cons (set chain (first - 1) (entry numbers (entry by v))) (first - 1) 0 l'
              ∙ ap (λ (y : ℕ). y ∷ drop (suc (first - 1)) (set chain (first - 1) (entry numbers (entry by v)))) (get_or-set_same chain (first - 1) (entry numbers (entry by v)) 0 l)
              ∙ ap (λ (z : List ℕ). entry numbers (entry by v) ∷ z) (later ∙ ap (λ (y : ℕ). drop y chain) s)
            where
              later : drop (suc (first - 1)) (set chain (first - 1) (entry numbers (entry by v))) ≡ drop (suc (first - 1)) chain
              later = drop-set-lt (suc (first - 1)) chain (first - 1) (entry numbers (entry by v)) (le_refl _)

-- ---- over edges that are numbers
module _ (edges start best roots by : List ℕ) (node : ℕ) (among : Edges (froms edges) (tos edges) (depths_of edges) (length best)) (w : Reached (froms edges) (tos edges) (depths_of edges) start best by)
    (chain : List ℕ) (v first : ℕ) (x : Tracing (froms edges) (tos edges) (depths_of edges) (numbers_of edges) start best roots by node chain v first) (q : entry best v ≡ entry start v → ⊥) where
  pub edge_in : entry by v < length edges
  edge_in = omega (arith, froms_length edges, edge_there (froms edges) (tos edges) (depths_of edges) (numbers_of edges) start best roots by node among w chain v first x q)

  pub number_in : entry by v < 65536
  number_in = omega (arith, edge_in, froms_length edges, among.few)

  pub tracing_back : (number near : ℕ) → number ≡ number_of (entry edges (entry by v)) → near ≡ from_of (entry edges (entry by v))
      → Tracing (froms edges) (tos edges) (depths_of edges) (numbers_of edges) start best roots by node (set chain (first - 1) number) near (first - 1)
  tracing_back number near is from =
      rw (is ∙ sym (numbers_entry edges (entry by v)), from ∙ sym (froms_entry edges (entry by v)))
      (tracing_on (froms edges) (tos edges) (depths_of edges) (numbers_of edges) start best roots by node among w chain v first x q (numbers_length edges ∙ sym (froms_length edges)))
