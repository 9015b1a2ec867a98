-- Rounds over the edges.
use Rattle.std.specs.Prelude.{◌≡◌, Bool, true, false, List, [], ◌∷◌, ℕ, suc, ◌+◌, ◌-◌, ◌<◌, ◌≤◌, length, set}
use Rattle.rules.specs.Depths.{top}
use Rattle.rules.specs.Sheets.{entry}
use Rattle.reach.specs.Reached.{Lent, gives, Risen}

-- How far the codes could still rise.
abbrev pub spare : List ℕ → ℕ
spare [] = 0
spare (c ∷ l) = (suc top - c) + spare l

module _ (from to depths : List ℕ) where
  -- The edge gives no more than its node has.
  abbrev pub Quiet : List ℕ → ℕ → Type 0
  Quiet best e = gives from to depths best e ≤ entry best (entry to e)

  -- What becomes of the codes at edge `e`: nothing, or its node rises to what it gives.
  pub data Turn (e : ℕ) (best by : List ℕ) (rose : Bool) : List ℕ → List ℕ → Bool → Type 0 where
    quiet : Quiet best e → Turn e best by rose best by rose
    raised : entry best (entry to e) < gives from to depths best e → Turn e best by rose (set best (entry to e) (gives from to depths best e)) (set by (entry to e) e) true

  -- Over the first `e` edges either something rose, or none of them gives more.
  pub data Progress (before : List ℕ) (e : ℕ) (best : List ℕ) : Bool → Type 0 where
    rose : spare best < spare before → Progress before e best true
    still : best ≡ before → ((j : ℕ) → j < e → Quiet best j) → Progress before e best false

  -- A round over the first `e` edges: whatever the codes rose from, they still rose from it.
  pub record Round (before by_before : List ℕ) (e : ℕ) (best by : List ℕ) (rose : Bool) : Type 0 where
    pub size : length best ≡ length before
    pub links : length by ≡ length by_before
    pub lent : Lent best by
    pub risen : (start : List ℕ) → Risen from to depths start before by_before → Risen from to depths start best by
    pub progress : Progress before e best rose
