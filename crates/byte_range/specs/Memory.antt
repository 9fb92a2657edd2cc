-- Bytes, and the little-endian numbers of several of them
-- (RISC-V Unprivileged ISA, "Load and Store Instructions").
use Rattle.std.specs.Prelude.{ℕ, ◌+◌, ◌-◌, ◌*◌, ◌/◌, ◌%◌, ◌^◌, ◌&&◌, nat_lt, nat_le, if◌then◌else◌}
use Rattle.rv32_decode.specs.Widths.{size_of}
use Rattle.rv32_decode.specs.declared.Width.{Width}
use Rattle.rv32_decode.specs.declared.Width.TheVariants.{Byte, Half, Word}

-- the number that the bytes from an address on make
unfoldable pub raw : Width → (ℕ → ℕ) → ℕ → ℕ
raw Byte memory a = memory a
raw Half memory a = memory a + 2 ^ 8 * memory (a + 1)
raw Word memory a =
    memory a + 2 ^ 8 * memory (a + 1) + 2 ^ 16 * memory (a + 2) + 2 ^ 24 * memory (a + 3)

-- the bytes after a store
unfoldable pub stored : Width → (ℕ → ℕ) → ℕ → ℕ → ℕ → ℕ
stored w memory a value x =
    if nat_le a x && nat_lt x (a + size_of w)
    then value / 2 ^ (8 * (x - a)) % 2 ^ 8
    else memory x
