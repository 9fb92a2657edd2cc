-- Helps the code alone: words that may be the beginning of a run.
use Rattle.std.specs.Prelude.{◌≡◌, ◌≢◌, ℕ, ◌-◌, IsTrue, List, length, Option}
use Rattle.std.specs.List.{list_all}
use Rattle.rv32_decode.specs.declared.Instr.{Instr}
use Rattle.templates.specs.Runs.{code_from, reach_of, reach_at, has_access, may_stand}
use Rattle.templates.specs.Reaches.{is_near}
use Rattle.batch_plan.specs.declared.stretches.RunPrefix.{RunPrefix}

-- the instructions begin with an access; each may stand after it; and their accesses lie near
pub record IsFront (instructions : List Instr) : Type 0 where
  pub begins : IsTrue (has_access instructions 0)
  pub nonzero : (reach_of instructions).base ≢ 0
  pub each : IsTrue (list_all (may_stand (reach_of instructions).base) instructions)
  pub near : IsTrue (is_near (reach_of instructions))

-- so many code words from an address on may be the beginning of a run
pub record IsRunPrefix (code : ℕ → Option Instr) (a n : ℕ) : Type 0 where
  pub some : n ≢ 0
  pub coded : length (code_from code a n) ≡ n
  pub front : IsFront (code_from code a n)

-- and this is what they reach, and whether the last one is an access
pub record IsStretchOf (code : ℕ → Option Instr) (a n : ℕ) (s : RunPrefix) : Type 0 where
  pub stretch : IsRunPrefix code a n
  pub reach : s.reach ≡ reach_at code a n
  pub ends : s.ends ≡ has_access (code_from code a n) (n - 1)
