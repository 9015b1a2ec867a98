-- Path: length 0 to 4, then that many base names.
use Rattle.std.specs.Prelude.{List, [], ◌∷◌, ◌++◌, ℕ, zero, suc, length, take, get_or}
use Rattle.rules.specs.Ranges.{most_names, most_base}
use Rattle.rules.specs.Tables.{Path}
use Rattle.wire.specs.Number.{bytes_of}
use Rattle.records.specs.Parsed.{got, Reader, ◌⟫◌}
use Rattle.records.specs.Fields.{field}
use Rattle.records.specs.declared.paths.Path.{Path as PathValue}

unfoldable pub names_from : ℕ → Reader Path
names_from zero s at = got [] at
names_from (suc n) s at = field 1 most_base s at ⟫ λ b at. names_from n s at ⟫ λ p at. got (b ∷ p) at

unfoldable pub path_field : Reader Path
path_field s at = field 0 most_names s at ⟫ λ n at. names_from n s at

-- ---- its bytes
unfoldable pub names_bytes : Path → List ℕ
names_bytes [] = []
names_bytes (b ∷ p) = bytes_of b ++ names_bytes p

abbrev pub path_bytes : Path → List ℕ
path_bytes p = bytes_of (length p) ++ names_bytes p

-- ---- as code holds it: the names, and 0 where there is none
abbrev pub path_value : Path → PathValue
path_value p = record { length = length p; first = get_or p 0 0; second = get_or p 1 0; third = get_or p 2 0; fourth = get_or p 3 0 }

abbrev pub path_of : PathValue → Path
path_of p = take p.length (p.first ∷ p.second ∷ p.third ∷ p.fourth ∷ [])
