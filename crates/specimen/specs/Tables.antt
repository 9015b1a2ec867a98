-- Tables that differ from the specimen table in how many spaces they have.
use Rattle.std.specs.Prelude.{List, ◌∷◌, ◌++◌, ℕ, ◌+◌, drop}
use Rattle.std.specs.List.{range_with_len}
use Rattle.demands.specs.Rows.{T}

-- T with so many spaces more, which have the keys from 31 on.
abbrev pub T_with_spaces : ℕ → List ℕ
T_with_spaces more = 1 ∷ (3 + more) ∷ 10 ∷ 20 ∷ 30 ∷ (range_with_len 31 more ++ drop 5 T)
