-- The names of functions, as they are shown.
use Rattle.std.specs.Prelude.{ℕ, nat_le, ◌&&◌, if◌then◌else◌}

-- a byte of a name: one that isn't a visible character of ASCII as `?`
abbrev pub shown_byte : ℕ → ℕ
shown_byte c = if nat_le 0x21 c && nat_le c 0x7e then c else 0x3f
