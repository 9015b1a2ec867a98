-- Numbers in hexadecimal digits.
use Rattle.std.specs.Prelude.{List, [], ℕ, false, ◌-◌, ◌^◌}
use Rattle.std.specs.Fmt.{digits, padded_integral, format_spec}

-- With zeros in front, up to so many digits.
abbrev pub padded_hex : ℕ → ℕ → List ℕ
padded_hex width n = padded_integral (format_spec 32 0 4 width (2 ^ 64 - 1)) false [] (digits 16 false n)
