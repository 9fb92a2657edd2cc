-- What a processor has, and what a copy of it has.
use Rattle.std.specs.Prelude.{◌≡◌, ℕ, ◌≤◌, false, is_some}
use Rattle.byte_range.specs.Lines.{LineBytes, lines_memory, place_of}
use Rattle.byte_range.specs.Window.{is_in_window}
use Rattle.rv32_step.specs.OneMemory.{Processor, State}

-- x0 is zero, and so is what lies beyond 32 registers
pub record AreRegisters (registers : ℕ → ℕ) : Type 0 where
  pub first : registers 0 ≡ 0
  pub beyond : (r : ℕ) → 32 ≤ r → registers r ≡ 0

-- zeros lie outside of the window
abbrev pub IsWindow : (ℕ → ℕ) → Type 0
IsWindow private = (a : ℕ) → is_in_window a ≡ false → private a ≡ 0

-- a processor has 32 registers and a window, and zeros beyond them
pub record IsContained (q : Processor) : Type 0 where
  pub registers : AreRegisters q.registers
  pub window : IsWindow q.private

abbrev pub AreContained : State → Type 0
AreContained s = (p : ℕ) → IsContained (s.processors p)

-- Helps the code alone: two memories have the same lines
abbrev pub HaveSameLines : LineBytes → LineBytes → Type 0
HaveSameLines m k =
    (line : ℕ) → is_some (place_of m.ranges line) ≡ is_some (place_of k.ranges line)

-- Helps the code alone: the byte of an address is the same in both, whatever is outside of the lines
abbrev pub IsSameByte : LineBytes → LineBytes → ℕ → Type 0
IsSameByte m k a = (outside : ℕ → ℕ) → lines_memory m outside a ≡ lines_memory k outside a
