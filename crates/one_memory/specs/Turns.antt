-- Helps the code alone: steps of one processor after another, while it has no exit.
use Rattle.std.specs.Prelude.{◌≡◌, ℕ, zero, suc, ◌<◌, None}
use Rattle.rv32_step.specs.OneMemory.{Original, Processor, State, step}
use Rattle.one_memory.specs.declared.processor.Processor.{Processor as ProcessorParts}
use Rattle.one_memory.specs.Machine.{MemoryParts, processor_of, state_among, original_on, with_one}

-- the state after so many steps of processor p
abbrev pub after_steps : Original → ℕ → ℕ → State → State
after_steps original p zero s = s
after_steps original p (suc n) s = (step original (after_steps original p n s) p).state

-- from one state to another, processor p makes so many steps, and has no exit before any
pub record AreTurns (original : Original) (p n : ℕ) (s t : State) : Type 0 where
  pub state : t ≡ after_steps original p n s
  pub runs : (k : ℕ) → k < n → ((after_steps original p k s).processors p).exit ≡ None

-- processor p has made so many steps, whatever the others are
abbrev pub Turns : ℕ → ℕ → MemoryParts → ProcessorParts → MemoryParts → ProcessorParts → Type 0
Turns p n m k m' k' =
    (nodes : ℕ) (all : ℕ → Processor)
    → AreTurns (original_on m nodes) p n (state_among (with_one all p (processor_of k)) m)
    (state_among (with_one all p (processor_of k')) m')
