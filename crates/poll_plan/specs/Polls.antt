-- Where a plan polls.
use Rattle.std.specs.Prelude.{ℕ, Option}
use Rattle.rv32_decode.specs.declared.Instr.{Instr}
use Rattle.templates.specs.declared.plans.PlanEntry.{PlanEntry}
use Rattle.templates.specs.Plans.{closes_loop_at}

-- the entry, which polls exactly where a loop of this code may close
abbrev pub with_polls : (ℕ → Option Instr) → PlanEntry → PlanEntry
with_polls code e = record e { polls = closes_loop_at e.address (code e.address) }
