-- Records of one kind, one behind the other; each may be held against those before it.
use Rattle.std.specs.Prelude.{List, [], ◌∷◌, ◌++◌, ℕ, zero, suc}
use Rattle.rules.specs.Lists.{◌▷◌}
use Rattle.records.specs.Parsed.{got, Reader, ◌⟫◌}

-- So many records, where `earlier` are those before them.
unfoldable pub many : {A : Type 0} → (List A → Reader A) → ℕ → List A → Reader (List A)
many P zero earlier s at = got [] at
many P (suc n) earlier s at = P earlier s at ⟫ λ x at. many P n (earlier ▷ x) s at ⟫ λ l at. got (x ∷ l) at

-- ---- their bytes
unfoldable pub many_bytes : {A : Type 0} → (A → List ℕ) → List A → List ℕ
many_bytes E [] = []
many_bytes E (x ∷ l) = E x ++ many_bytes E l
