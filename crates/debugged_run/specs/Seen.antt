-- What a debugger sees of the original's run on one memory, from a position in it.
use Rattle.std.specs.Prelude.{◌≡◌, ℕ, ◌==◌, Bool, if◌then◌else◌, is_some}
use Rattle.rv32_step.specs.Registers.{reg}
use Rattle.rv32_step.specs.OneMemory.{Original, Processor, State}
use Rattle.one_memory.specs.Shown.{byte_shown}
use Rattle.gdb_session.specs.declared.target.Doing.{Doing}
use Rattle.gdb_session.specs.declared.target.Doing.TheVariants.{Runs, Exited}
use Rattle.gdb_session.specs.Views.{View}
use Rattle.time_machine.specs.Stand.{Stand, original_in, state_at}

-- a register as instructions read it, or after the 32 the address of the next instruction
abbrev pub register_seen : Processor → (number : ℕ) → ℕ
register_seen q n = if n == 32 then q.pc else reg q.registers n

abbrev pub seen_in : Original → State → View
seen_in original s = record {
  processors = original.nodes;
  register = λ p n. register_seen (s.processors p) n;
  byte = λ p a. byte_shown original s p a;
}

-- what is seen from a position: the state that the picks up to there lead to
abbrev pub seen_from : Stand → View
seen_from s = seen_in (original_in s.run) (state_at s.run s.position)

-- whether a processor has ended there
abbrev pub has_ended : Stand → (processor : ℕ) → Bool
has_ended s p = is_some ((state_at s.run s.position).processors p).exit

-- on one memory no processor waits
abbrev pub Does : Stand → (processor : ℕ) → Doing → Type 0
Does s p d = d ≡ (if has_ended s p then Exited else Runs)
