-- The 32 registers, where x0 is hardwired to zero
-- (RISC-V Unprivileged ISA, "Programmers' Model for Base Integer ISA").
use Rattle.std.specs.Prelude.{ℕ, if◌then◌else◌, ◌==◌, ◌&&◌, nat_lt, List, slice_index, slice_set, replicate}

-- the value that an instruction reads from register r
unfoldable pub reg : (ℕ → ℕ) → ℕ → ℕ
reg registers r = if r == 0 then 0 else registers r

-- the registers after a write of register r; a write of x0 is lost
unfoldable pub put : (ℕ → ℕ) → ℕ → ℕ → ℕ → ℕ
put registers r value q = if (q == r) && nat_lt 0 r then value else registers q

-- registers that are kept as a list
abbrev pub registers_of : List ℕ → ℕ → ℕ
registers_of values r = slice_index values r

-- what processor p of n begins with: its number in a0, how many there are in a1, the stack pointer
abbrev pub first_values : ℕ → ℕ → List ℕ
first_values p n = slice_set (slice_set (slice_set (replicate 32 0) 2 0x7ffffff0) 10 p) 11 n
