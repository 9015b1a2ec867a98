-- The edges of a request's graph, delegation by delegation.
use mathlib.Core.Path.{◌≡◌, refl, sym, ◌∙◌, ap, subst}
use mathlib.Core.List.{List, [], ◌∷◌}
use Prim.Native.Nat.{ℕ, ◌+◌, ◌<◌, ◌≤◌}
use native.Mathlib.Omega.{arith}
use native.Mathlib.Decide.{ℕ_discrete}
use native.Mathlib.Numerals.{add-one}
use lib.ListN.{length, take, set, length-append, get_or-append}
use lib.Seq.{get_or-append_seam, take-suc-set}
use Rattle.rules.specs.Lists.{◌▷◌}
use Rattle.std.specs.Prelude.{Option, Some, None}
use Rattle.rules.specs.Tables.{Asked, Table}
use Rattle.rules.specs.Depths.{top}
use Rattle.rules.specs.Ranges.{GoodNames}
use Rattle.rules.specs.Names.{IsSelf}
use Rattle.rules.specs.Sheets.{entry}
use Rattle.rules.specs.Access.{Setting, Name, setting_by}
use Rattle.rules.specs.declared.Key.{Key}
use Rattle.rules.specs.declared.Space.{Space}
use Rattle.rules.specs.declared.Depth.{Depth}
use Rattle.rules.proofs.NamesLaws.{self_one}
use Rattle.rules.proofs.AccessLaws.{table_fixed}
use Rattle.table.specs.ReadTable.{table_at}
use Rattle.sheet.proofs.FindsLaws.{leads_one}
use Rattle.sheet.proofs.MeaningLaws.{index_spaces}
use Rattle.matching.specs.Matching.{told, HandsOn, Hands}
use Rattle.matching.specs.Held.{Held}
use Rattle.matching.specs.declared.Handed.{Handed}
use Rattle.matching.proofs.MatchingLaws.{hands_on, hands_none}
use Rattle.reach.specs.Edges.{edge_of, froms, tos, depths_of, numbers_of}
use Rattle.reach.specs.Graphs.{WroteTo, Edge, Drawn}
use Rattle.reach.proofs.EdgesLaws.{froms_more, tos_more, depths_more, numbers_more}
use Rattle.decision.specs.Gathering.{IsNode, space, FindsNode, DrawnSo}
use Rattle.decision.proofs.GatheringLaws.{one_node_lem, finds_node, finds_nobody}

-- ---- rows
entry_first : (l : List ℕ) (x e : ℕ) → e < length l → entry (l ▷ x) e ≡ entry l e
entry_first l x e h = get_or-append l (x ∷ []) 0 e h

entry_last : (l : List ℕ) (x e : ℕ) → e ≡ length l → entry (l ▷ x) e ≡ x
entry_last l x e h = ap (entry (l ▷ x)) h ∙ get_or-append_seam l x [] 0

-- The edges that the first `j` delegations are, told in rows.
abbrev pub RowsSo : Table → List ℕ → Asked Space → Key → ℕ → List ℕ → List ℕ → List ℕ → List ℕ → Type 0
RowsSo t sheet q subject j from to depths numbers = Drawn (setting_by (told t sheet) t q) (IsNode t.names.spaces subject) j from to depths numbers

module _ (t : Table) (good : GoodNames t.names) (sheet : List ℕ) (q : Asked Space) (subject : Key) (j : ℕ) (from to depths numbers : List ℕ) (so : RowsSo t sheet q subject j from to depths numbers) where
  abbrev Y : Setting
  Y = setting_by (told t sheet) t q

  abbrev N : ℕ → Key → Type 0
  N = IsNode t.names.spaces subject

  -- It is between no two nodes.
  no_edge : ((d u v : ℕ) (k m : Key) → WroteTo Y j k m d → N u k → N v m → ⊥) → RowsSo t sheet q subject (j + 1) from to depths numbers
  no_edge f = record {
    same_to = so.same_to;
    same_depths = so.same_depths;
    same_numbers = so.same_numbers;
    sound = so.sound;
    all = λ i d u v k m h w a b. go i d u v k m h w a b (ℕ_discrete i j);
  }
    where
      go : (i d u v : ℕ) (k m : Key) → i < j + 1 → WroteTo Y i k m d → N u k → N v m → Dec (i ≡ j) → (e : ℕ) × (e < length from) × (entry from e ≡ u) × (entry to e ≡ v) × (entry depths e ≡ d)
      go i d u v k m h w a b (yes e) = absurd (f d u v k m (subst (λ (x : ℕ). WroteTo Y x k m d) e w) a b)
      go i d u v k m h w a b (no e) = so.all i d u v k m (omega arith) w a b

  -- It is one more edge.
  one_edge : (k m : Key) (d u v : ℕ) → WroteTo Y j k m d → N u k → N v m → ((c x y : ℕ) (a b : Key) → WroteTo Y j a b c → N x a → N y b → (x ≡ u) × (y ≡ v) × (c ≡ d))
      → RowsSo t sheet q subject (j + 1) (from ▷ u) (to ▷ v) (depths ▷ d) (numbers ▷ j)
  one_edge k m d u v w a b one = record {
    same_to = omega (arith, length-append to (v ∷ []), length-append from (u ∷ []), so.same_to);
    same_depths = omega (arith, length-append depths (d ∷ []), length-append from (u ∷ []), so.same_depths);
    same_numbers = omega (arith, length-append numbers (j ∷ []), length-append from (u ∷ []), so.same_numbers);
    sound = λ e h. sound e h (ℕ_discrete e (length from));
    all = λ i c x y p r h z f g. all i c x y p r h z f g (ℕ_discrete i j);
  }
    where
      long : length (from ▷ u) ≡ length from + 1
      long = omega (arith, length-append from (u ∷ []))

      sound : (e : ℕ) → e < length (from ▷ u) → Dec (e ≡ length from) → Edge Y N (from ▷ u) (to ▷ v) (depths ▷ d) (numbers ▷ j) e
      sound e h (yes z) = record {
        writer = k;
        delegatee = m;
        wrote = rw (entry_last numbers j e (z ∙ sym so.same_numbers), entry_last depths d e (z ∙ sym so.same_depths)) w;
        from_node = rw (entry_last from u e z) a;
        to_node = rw (entry_last to v e (z ∙ sym so.same_to)) b;
      }
      sound e h (no z) =
          let l : e < length from = omega (arith, h, long, z) in
          let s = so.sound e l in
          record {
            writer = s.writer;
            delegatee = s.delegatee;
            wrote = rw (entry_first numbers j e (omega (arith, l, so.same_numbers)), entry_first depths d e (omega (arith, l, so.same_depths))) s.wrote;
            from_node = rw (entry_first from u e l) s.from_node;
            to_node = rw (entry_first to v e (omega (arith, l, so.same_to))) s.to_node;
          }

      all : (i c x y : ℕ) (p r : Key) → i < j + 1 → WroteTo Y i p r c → N x p → N y r → Dec (i ≡ j)
          → (e : ℕ) × (e < length (from ▷ u)) × (entry (from ▷ u) e ≡ x) × (entry (to ▷ v) e ≡ y) × (entry (depths ▷ d) e ≡ c)
      all i c x y p r h z f g (yes e) =
          let s = one c x y p r (subst (λ (n : ℕ). WroteTo Y n p r c) e z) f g in
          (length from, omega (arith, long), entry_last from u (length from) refl ∙ sym s.0, entry_last to v (length from) (sym so.same_to) ∙ sym s.1, entry_last depths d (length from) (sym so.same_depths) ∙ sym s.2)
      all i c x y p r h z f g (no e) =
          let s = so.all i c x y p r (omega arith) z f g in
          (s.0, omega (arith, s.1, long), entry_first from u s.0 s.1 ∙ s.2, entry_first to v s.0 (omega (arith, s.1, so.same_to)) ∙ s.3, entry_first depths d s.0 (omega (arith, s.1, so.same_depths)) ∙ s.4)

  module _ (r : Option Handed) (found-so : Hands (HandsOn t sheet q j) r) where
    as_handed : {k m : Key} {d : ℕ} (w : WroteTo Y j k m d) → HandsOn t sheet q j w.name.space m d
    as_handed {k} w = record { path = w.name.path; writer = k; writes = w.wrote; leads = w.means }

    pub hands_no_edge : r ≡ None → RowsSo t sheet q subject (j + 1) from to depths numbers
    hands_no_edge e = no_edge (λ d u v k m w a b. hands_none found-so e w.name.space m d (as_handed w))

    module _ (it : Handed) (e : r ≡ Some it) where
      abbrev S : Space
      S = it.writer

      abbrev m : Key
      m = it.to

      abbrev d : Depth
      d = it.depth

      hands : HandsOn t sheet q j S m d.0
      hands = hands_on found-so e

      wrote : WroteTo Y j hands.writer m d.0
      wrote = record { name = record { space = S; path = hands.path }; wrote = hands.writes; means = hands.leads }

      -- It says one thing.
      says : {k l : Key} {c : ℕ} (w : WroteTo Y j k l c) → (k ≡ hands.writer) × (l ≡ m) × (c ≡ d.0)
      says {k} {l} {c} w =
          let f = (table_fixed (told t sheet) t q).wrote j c d.0 k hands.writer w.name (record { space = S; path = hands.path }) w.wrote hands.writes in (
            self_one (subst (λ (n : Name). IsSelf t.names.spaces n.space k) f.0 w.wrote.is_self) hands.writes.is_self,
            leads_one t.names good sheet S hands.path l m (subst (λ (n : Name). told t sheet n.space n.path l) f.0 w.means) hands.leads,
            f.1,
          )

      pub to_nobody : (a : Option ℕ) → FindsNode t.names.spaces subject m a → a ≡ None → RowsSo t sheet q subject (j + 1) from to depths numbers
      to_nobody a f h = no_edge (λ c u v k l w x y. finds_nobody f h v (subst (N v) (says w).1 y))

      pub one_more_edge : (a : Option ℕ) → FindsNode t.names.spaces subject m a → (v : ℕ) → a ≡ Some v → RowsSo t sheet q subject (j + 1) (from ▷ S.0) (to ▷ v) (depths ▷ d.0) (numbers ▷ j)
      one_more_edge a f v h =
          one_edge hands.writer m d.0 S.0 v wrote (space hands.writes.is_self) (finds_node v f h)
          (λ c x y k l w g i.
          let s = says w in (
            one_node_lem t.names.spaces subject good.keys_apart x S.0 hands.writer (subst (N x) s.0 g) (space hands.writes.is_self),
            one_node_lem t.names.spaces subject good.keys_apart y v m (subst (N y) s.1 i) (finds_node v f h),
            s.2,
          ))

-- ---- in an array, with the depth's number as code has it
pub drawn_in : (t : Table) (sheet : List ℕ) (q : Asked Space) (subject : Key) (j m : ℕ) (edges : List ℕ) (u v d c x : ℕ) → c ≡ d → x ≡ edge_of u v c j → u < 640 → v < 640 → d < 16 → m < length edges
    → RowsSo t sheet q subject (j + 1) (froms (take m edges) ▷ u) (tos (take m edges) ▷ v) (depths_of (take m edges) ▷ d) (numbers_of (take m edges) ▷ j)
    → DrawnSo t sheet q subject (j + 1) (take (m + 1) (set edges m x))
drawn_in t sheet q subject j m edges u v d c x e is a b k h w =
    subst (DrawnSo t sheet q subject (j + 1)) (sym row)
    (rw (froms_more (take m edges) u v d j a b k, tos_more (take m edges) u v d j a b k, depths_more (take m edges) u v d j a b k, numbers_more (take m edges) u v d j a b k) w)
  where
    packed : x ≡ edge_of u v d j
    packed = is ∙ ap (λ (y : ℕ). edge_of u v y j) e

    row : take (m + 1) (set edges m x) ≡ take m edges ▷ edge_of u v d j
    row = rw (add-one m) (take-suc-set edges m x h ∙ ap (λ (y : ℕ). take m edges ▷ y) packed)

-- ---- numbers that fit
module _ (s keys names accesses delegations : List ℕ) (held : Held s keys names accesses delegations) (sheet : List ℕ) (q : Asked Space) (j : ℕ) (r : Option Handed) (g : Hands (HandsOn (table_at s) sheet q j) r) (it : Handed) (e : r ≡ Some it) where
  pub writer_fits_node : it.writer.0 < length keys
  writer_fits_node = omega (arith, (hands_on g e).writes.is_self.at.there, index_spaces (table_at s).names keys names held.index)

  pub edge_depth_fits : it.depth.0 ≤ top
  edge_depth_fits = (held.good.delegations j _ (hands_on g e).writes.at).depth

-- ---- the loop
pub drawn_start : (t : Table) (sheet : List ℕ) (q : Asked Space) (subject : Key) (edges : List ℕ) → DrawnSo t sheet q subject 0 (take 0 edges)
unfolding froms tos depths_of numbers_of
drawn_start t sheet q subject edges = record {
  same_to = refl;
  same_depths = refl;
  same_numbers = refl;
  sound = λ e h. absurd (omega arith);
  all = λ j d u v k m h. absurd (omega arith);
}

pub drawn_all : (t : Table) (sheet : List ℕ) (q : Asked Space) (subject : Key) (j n : ℕ) (edges : List ℕ) → n ≤ j → j ≤ n → DrawnSo t sheet q subject j edges → DrawnSo t sheet q subject n edges
drawn_all t sheet q subject j n edges h l w = let e : j ≡ n = omega arith in subst (λ (x : ℕ). DrawnSo t sheet q subject x edges) e w
