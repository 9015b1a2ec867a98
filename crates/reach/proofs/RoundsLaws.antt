-- Each edge followed raises a node's code or changes nothing, so the rounds end, and at the end no edge gives more.
use mathlib.Core.Path.{◌≡◌, refl, sym, ◌∙◌, ap, ap₂}
use mathlib.Core.Bool.{Bool, true, false}
use mathlib.Core.List.{List, [], ◌∷◌}
use Prim.Native.Nat.{ℕ, zero, suc, ◌+◌, ◌<◌, ◌≤◌}
use native.Mathlib.Nat.{le_refl, le_trans, not-suc-le-zero, le_of_suc-le-suc}
use native.Mathlib.Omega.{arith}
use native.Mathlib.Decide.{ℕ_discrete}
use lib.ListN.{length, set, length-set}
use lib.Seq.{get_or-set_same, get_or-set_other}
use Rattle.rules.specs.Choice.{pick}
use Rattle.rules.specs.Depths.{top, step_code}
use Rattle.rules.specs.Sheets.{entry}
use Rattle.rules.proofs.DepthsLaws.{code_more}
use Rattle.reach.specs.Edges.{from_of, to_of, depth_of, froms, tos, depths_of}
use Rattle.reach.specs.Reached.{Edges, Lent, gives, Why, given, by_edge, Closed, Risen, Reached}
use Rattle.reach.specs.Rounds.{spare, Quiet, Turn, quiet, raised, Progress, rose, still, Round}
use Rattle.reach.proofs.EdgesLaws.{froms_length, froms_entry, tos_entry, depths_entry}
use Rattle.reach.proofs.StepLaws.{step_below, step_less}

-- ---- a code that rises leaves less to rise
pub spare_set : (l : List ℕ) (v c : ℕ) → v < length l → entry l v < c → c ≤ suc top → spare (set l v c) < spare l
spare_set [] v c h m n = absurd (not-suc-le-zero h)
spare_set (x ∷ l) zero c h m n = omega arith
spare_set (x ∷ l) (suc v) c h m n = omega (arith, spare_set l v c (le_of_suc-le-suc h) m n)

-- ---- one edge
module _ (from to depths : List ℕ) (best by : List ℕ) (edges : Edges from to depths (length best)) (lent : Lent best by) (e : ℕ) (h : e < length from)
    (up : entry best (entry to e) < gives from to depths best e) where
  code : ℕ
  code = gives from to depths best e

  raised_best : List ℕ
  raised_best = set best (entry to e) code

  raised_by : List ℕ
  raised_by = set by (entry to e) e

  here : entry raised_best (entry to e) ≡ code
  unfolding raised_best
  here = get_or-set_same best (entry to e) code 0 (edges.to_node e h)

  other : (v : ℕ) → (v ≡ entry to e → ⊥) → entry raised_best v ≡ entry best v
  unfolding raised_best
  other v n = get_or-set_other best (entry to e) v code 0 n

  -- No code falls.
  rises : (v : ℕ) → entry best v ≤ entry raised_best v
  unfolding code
  rises v = go (ℕ_discrete v (entry to e))
    where
      go : Dec (v ≡ entry to e) → entry best v ≤ entry raised_best v
      go (yes q) = rw q (omega (arith, here, up))
      go (no n) = omega (arith, other v n)

  code_small : code ≤ suc top
  unfolding code
  code_small = omega (arith, step_below (entry best (entry from e)) (entry depths e), lent.codes (entry from e))

  raised_lent : Lent raised_best raised_by
  unfolding raised_best raised_by
  raised_lent = record { codes = λ v. small v (ℕ_discrete v (entry to e)); room = omega (arith, lent.room, length-set best (entry to e) code, length-set by (entry to e) e) }
    where
      small : (v : ℕ) → Dec (v ≡ entry to e) → entry raised_best v ≤ suc top
      small v (yes q) = rw q (omega (arith, here, code_small))
      small v (no n) = omega (arith, other v n, lent.codes v)

  -- What an edge gives does not fall, and the edge that was followed gives what it gave.
  gives_more : (j : ℕ) → gives from to depths best j ≤ gives from to depths raised_best j
  gives_more j = code_more (entry best (entry from j)) (entry raised_best (entry from j)) (entry depths j) (rises (entry from j))

  raised_risen : (start : List ℕ) → Risen from to depths start best by → Risen from to depths start raised_best raised_by
  unfolding raised_best raised_by code
  raised_risen start r = record {
    size = length-set best (entry to e) code ∙ r.size;
    lent = raised_lent;
    more = λ v. le_trans (r.more v) (rises v);
    why = λ v. why v (ℕ_discrete v (entry to e));
  }
    where
      kept : (v : ℕ) (x : ℕ) → entry raised_best v ≡ entry best v → Why from to depths start best v x → Why from to depths start raised_best v x
      kept v x q (given w) = given (q ∙ w)
      kept v x q (by_edge a b c d) = by_edge a b (rw q c) (rw q (le_trans d (gives_more x)))

      why : (v : ℕ) → Dec (v ≡ entry to e) → Why from to depths start raised_best v (entry raised_by v)
      why v (yes q) = rw (q, get_or-set_same by (entry to e) e 0 (omega (arith, edges.to_node e h, lent.room)))
          (by_edge h refl (omega (arith, here, up)) (omega (arith, here, gives_more e)))
      why v (no n) = rw (get_or-set_other by (entry to e) v e 0 n) (kept v (entry by v) (other v n) (r.why v))

  raised_spare : spare raised_best < spare best
  unfolding raised_best code
  raised_spare = spare_set best (entry to e) code (edges.to_node e h) up code_small

-- ---- one edge, as code follows it
module _ (edges : List ℕ) (nodes e : ℕ) (there : e < length edges) (among : Edges (froms edges) (tos edges) (depths_of edges) nodes) where
  pub near_there : (near : ℕ) → near ≡ from_of (entry edges e) → near < nodes
  near_there near is = omega (arith, is, froms_entry edges e, among.from_node e (omega (arith, froms_length edges)))

  pub far_there : (far : ℕ) → far ≡ to_of (entry edges e) → far < nodes
  far_there far is = omega (arith, is, tos_entry edges e, among.to_node e (omega (arith, froms_length edges)))

  pub number_fits : e < 65536
  number_fits = omega (arith, froms_length edges, among.few)

module _ (edges best by : List ℕ) (e : ℕ) (rose : Bool) (near far depth code : ℕ) (from : near ≡ from_of (entry edges e)) (to : far ≡ to_of (entry edges e)) (deep : depth ≡ depth_of (entry edges e))
    (is : code ≡ step_code (entry best near) depth) where
  code_gives : code ≡ gives (froms edges) (tos edges) (depths_of edges) best e
  code_gives = is ∙ ap₂ (λ (n d : ℕ). step_code (entry best n) d) (from ∙ sym (froms_entry edges e)) (deep ∙ sym (depths_entry edges e))

  far_node : far ≡ entry (tos edges) e
  far_node = to ∙ sym (tos_entry edges e)

  pub turn_quiet : code ≤ entry best far → Turn (froms edges) (tos edges) (depths_of edges) e best by rose best by rose
  turn_quiet h = quiet (rw (code_gives, far_node) at h)

  pub turn_raised : entry best far < code → Turn (froms edges) (tos edges) (depths_of edges) e best by rose (set best far code) (set by far e) true
  turn_raised h = rw (code_gives, far_node) (raised (rw (code_gives, far_node) at h))

-- ---- a round
module _ (from to depths : List ℕ) (before by_before : List ℕ) where
  pub round_start : Lent before by_before → Round from to depths before by_before 0 before by_before false
  round_start l = record { size = refl; links = refl; lent = l; risen = λ start r. r; progress = still refl (λ j h. absurd (omega arith)) }

  pub round_on : (best by : List ℕ) (e : ℕ) (best' by' : List ℕ) (r r' : Bool) → Edges from to depths (length before) → e < length from → Round from to depths before by_before e best by r
      → Turn from to depths e best by r best' by' r' → Round from to depths before by_before (e + 1) best' by' r'
  unfolding raised_best raised_by code
  round_on best by e best' by' r r' edges h w (quiet q) = record { size = w.size; links = w.links; lent = w.lent; risen = w.risen; progress = go r w.progress }
    where
      go : (r : Bool) → Progress from to depths before e best r → Progress from to depths before (e + 1) best r
      go _ (rose s) = rose s
      go _ (still s k) = still s (λ j l. later j l (ℕ_discrete j e))
        where
          later : (j : ℕ) → j < e + 1 → Dec (j ≡ e) → Quiet from to depths best j
          later j l (yes i) = rw i q
          later j l (no n) = k j (omega arith)
  round_on best by e best' by' r r' edges h w (raised up) =
      let edges' : Edges from to depths (length best) = rw w.size edges in
      record {
        size = length-set best (entry to e) (gives from to depths best e) ∙ w.size;
        links = length-set by (entry to e) e ∙ w.links;
        lent = raised_lent from to depths best by edges' w.lent e h up;
        risen = λ start s. raised_risen from to depths best by edges' w.lent e h up start (w.risen start s);
        progress = rose (go r w.progress (raised_spare from to depths best by edges' w.lent e h up));
      }
    where
      go : (r : Bool) → Progress from to depths before e best r → spare (set best (entry to e) (gives from to depths best e)) < spare best
          → spare (set best (entry to e) (gives from to depths best e)) < spare before
      go _ (rose s) l = omega (arith, s, l)
      go _ (still s k) l = omega (arith, ap spare s, l)

  pub round_edges : (best by : List ℕ) (e : ℕ) (r : Bool) → Edges from to depths (length before) → Round from to depths before by_before e best by r → Edges from to depths (length best)
  round_edges best by e r edges w = rw w.size edges

  pub round_end : (best by : List ℕ) (e : ℕ) (r : Bool) → Round from to depths before by_before e best by r → e ≤ length from → length from ≤ e → Round from to depths before by_before (length from) best by r
  round_end best by e r w g h = let i : length from ≡ e = omega arith in rw i w

-- ---- rounds until one changes nothing
abbrev pub as_number : Bool → ℕ
as_number b = pick b 1 0

module _ (from to depths : List ℕ) where
  -- The codes have risen, and once a round changed nothing they are at rest.
  pub record Rounds (start best by : List ℕ) (rose : Bool) : Type 0 where
    pub risen : Risen from to depths start best by
    pub rest : rose ≡ false → Closed from to depths best

  pub rounds_start : (start by : List ℕ) → Lent start by → Rounds start start by true
  rounds_start start by l = record {
    risen = record { size = refl; lent = l; more = λ v. le_refl _; why = λ v. given refl };
    rest = λ e. let z : ◌≡◌ {A = ℕ} 0 1 = cc in absurd (omega arith);
  }

  module _ (start best by best' by' : List ℕ) (before r : Bool) (w : Rounds start best by before) (round : Round from to depths best by (length from) best' by' r) where
    pub rounds_on : Rounds start best' by' r
    rounds_on = record { risen = round.risen start w.risen; rest = go r round.progress }
      where
        go : (r : Bool) → Progress from to depths best (length from) best' r → r ≡ false → Closed from to depths best'
        go _ (rose s) e = let z : ◌≡◌ {A = ℕ} 0 1 = cc in absurd (omega arith)
        go _ (still s k) e = record { closed = λ e h. k e h }

    pub rounds_less : before ≡ true → spare best' + as_number r < spare best + as_number before
    rounds_less e = rw e (go r round.progress)
      where
        go : (r : Bool) → Progress from to depths best (length from) best' r → spare best' + as_number r < spare best + 1
        go _ (rose s) = omega (arith, s)
        go _ (still s k) = omega (arith, ap spare s)

  pub rounds_edges : (start best by : List ℕ) (r : Bool) → Edges from to depths (length start) → Rounds start best by r → Edges from to depths (length best)
  rounds_edges start best by r edges w = rw w.risen.size edges

  pub rounds_end : (start best by : List ℕ) (r : Bool) → Rounds start best by r → r ≡ false → Reached from to depths start best by
  rounds_end start best by r w e = record { risen = w.risen; rest = w.rest e }

-- Along the edges that gave nodes their codes, the codes rise: whoever follows them comes to a node that was given its code at the start.
pub edge_rises : (from to depths best : List ℕ) (e c : ℕ) → 0 < c → c ≤ gives from to depths best e → c < entry best (entry from e)
edge_rises from to depths best e c h g = omega (arith, step_less (entry best (entry from e)) (entry depths e) (omega arith))
