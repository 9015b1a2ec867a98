-- What a slice holds once bytes are written into it.
use Rattle.std.specs.Prelude.{List, ◌++◌, ℕ, ◌+◌, length, take, drop}

-- `s` with `bytes` in the place of what stood from `at` on; what is before and after stays.
unfoldable pub placed : List ℕ → ℕ → List ℕ → List ℕ
placed s at bytes = take at s ++ (bytes ++ drop (at + length bytes) s)
