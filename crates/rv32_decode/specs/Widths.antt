-- The widths of loads and stores, and natural alignment
-- (RISC-V Unprivileged ISA, "Load and Store Instructions").
use Rattle.std.specs.Prelude.{ℕ, ◌%◌, Bool, ◌==◌}
use Rattle.rv32_decode.specs.declared.LoadKind.{LoadKind}
use Rattle.rv32_decode.specs.declared.LoadKind.TheVariants as load_kind
use Rattle.rv32_decode.specs.declared.Width.{Width}
use Rattle.rv32_decode.specs.declared.Width.TheVariants.{Byte, Half, Word}

-- how many bytes an access has
abbrev pub size_of : Width → ℕ
size_of Byte = 1
size_of Half = 2
size_of Word = 4

-- how much a load reads
abbrev pub width_of : LoadKind → Width
width_of load_kind.Byte = Byte
width_of load_kind.Half = Half
width_of load_kind.Word = Word
width_of load_kind.ByteU = Byte
width_of load_kind.HalfU = Half

-- the address is a multiple of the access's size
abbrev pub is_aligned : Width → ℕ → Bool
is_aligned w a = a % size_of w == 0
