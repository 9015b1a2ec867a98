-- What was packed into an edge is what is read from it, and what is read from a row of edges is read edge by edge.
use mathlib.Core.Path.{◌≡◌, refl, ◌∙◌, ap}
use mathlib.Core.List.{List, [], ◌∷◌, map}
use Prim.Native.Nat.{ℕ, ◌<◌}
use native.Mathlib.Omega.{arith}
use lib.ListN.{length, length-map, get_or-map}
use Rattle.rules.specs.Lists.{◌▷◌}
use Rattle.rules.specs.Sheets.{entry}
use Rattle.reach.specs.Edges.{edge_of, from_of, to_of, depth_of, number_of, froms, tos, depths_of, numbers_of}

-- ---- one edge
module _ (from to depth number : ℕ) (a : from < 640) (b : to < 640) (c : depth < 16) where
  pub from_edge : from_of (edge_of from to depth number) ≡ from
  from_edge = omega arith

  pub to_edge : to_of (edge_of from to depth number) ≡ to
  to_edge = omega arith

  pub depth_edge : depth_of (edge_of from to depth number) ≡ depth
  depth_edge = omega arith

  pub number_edge : number_of (edge_of from to depth number) ≡ number
  number_edge = omega arith

-- ---- a row of edges
module _ (edges : List ℕ) where
  pub froms_length : length (froms edges) ≡ length edges
  unfolding froms
  froms_length = length-map edges from_of

  pub tos_length : length (tos edges) ≡ length edges
  unfolding tos
  tos_length = length-map edges to_of

  pub depths_length : length (depths_of edges) ≡ length edges
  unfolding depths_of
  depths_length = length-map edges depth_of

  pub numbers_length : length (numbers_of edges) ≡ length edges
  unfolding numbers_of
  numbers_length = length-map edges number_of

  pub froms_entry : (e : ℕ) → entry (froms edges) e ≡ from_of (entry edges e)
  unfolding froms
  froms_entry e = get_or-map from_of edges e 0

  pub tos_entry : (e : ℕ) → entry (tos edges) e ≡ to_of (entry edges e)
  unfolding tos
  tos_entry e = get_or-map to_of edges e 0

  pub depths_entry : (e : ℕ) → entry (depths_of edges) e ≡ depth_of (entry edges e)
  unfolding depths_of
  depths_entry e = get_or-map depth_of edges e 0

  pub numbers_entry : (e : ℕ) → entry (numbers_of edges) e ≡ number_of (entry edges e)
  unfolding numbers_of
  numbers_entry e = get_or-map number_of edges e 0

-- ---- one more edge
map_more : (f : ℕ → ℕ) (l : List ℕ) (x : ℕ) → map f (l ▷ x) ≡ map f l ▷ f x
map_more f [] x = refl
map_more f (y ∷ l) x = ap (λ (k : List ℕ). f y ∷ k) (map_more f l x)

module _ (edges : List ℕ) (from to depth number : ℕ) (a : from < 640) (b : to < 640) (c : depth < 16) where
  pub froms_more : froms (edges ▷ edge_of from to depth number) ≡ froms edges ▷ from
  unfolding froms
  froms_more = map_more from_of edges (edge_of from to depth number) ∙ ap (λ (n : ℕ). map from_of edges ▷ n) (from_edge from to depth number a b c)

  pub tos_more : tos (edges ▷ edge_of from to depth number) ≡ tos edges ▷ to
  unfolding tos
  tos_more = map_more to_of edges (edge_of from to depth number) ∙ ap (λ (n : ℕ). map to_of edges ▷ n) (to_edge from to depth number a b c)

  pub depths_more : depths_of (edges ▷ edge_of from to depth number) ≡ depths_of edges ▷ depth
  unfolding depths_of
  depths_more = map_more depth_of edges (edge_of from to depth number) ∙ ap (λ (n : ℕ). map depth_of edges ▷ n) (depth_edge from to depth number a b c)

  pub numbers_more : numbers_of (edges ▷ edge_of from to depth number) ≡ numbers_of edges ▷ number
  unfolding numbers_of
  numbers_more = map_more number_of edges (edge_of from to depth number) ∙ ap (λ (n : ℕ). map number_of edges ▷ n) (number_edge from to depth number a b c)
