-- What a debugger sees of a run, from where the run stands.
use Rattle.std.specs.Prelude.{ℕ, Option}

-- the number of processors; each one's registers, of which the one after the 32 is the program
-- counter; and each byte of memory, where it is mapped
pub record View : Type 0 where
  pub processors : ℕ
  pub register : (processor number : ℕ) → ℕ
  pub byte : (processor address : ℕ) → Option ℕ
