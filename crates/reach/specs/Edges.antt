-- An edge as one number: the node that it goes from, the node that it goes to, its depth, and the number of its delegation.
-- Nodes below 640, depths below 16 and numbers below 512 fit 32 bits together.
use Rattle.std.specs.Prelude.{List, map, ℕ, ◌+◌, ◌*◌, ◌/◌, ◌%◌}

abbrev pub edge_of : ℕ → ℕ → ℕ → ℕ → ℕ
edge_of from to depth number = from + 640 * to + 409600 * depth + 6553600 * number

abbrev pub from_of : ℕ → ℕ
from_of edge = edge % 640

abbrev pub to_of : ℕ → ℕ
to_of edge = edge / 640 % 640

abbrev pub depth_of : ℕ → ℕ
depth_of edge = edge / 409600 % 16

abbrev pub number_of : ℕ → ℕ
number_of edge = edge / 6553600

-- What the edges of a row go from, what they go to, their depths and their numbers.
unfoldable pub froms : List ℕ → List ℕ
froms = map from_of

unfoldable pub tos : List ℕ → List ℕ
tos = map to_of

unfoldable pub depths_of : List ℕ → List ℕ
depths_of = map depth_of

unfoldable pub numbers_of : List ℕ → List ℕ
numbers_of = map number_of
