-- What is told of an outcome, and its status.
use Rattle.std.specs.Prelude.{◌≡◌, ℕ, Bool, true, false, List, [], ◌++◌, length, codes}
use Rattle.rv32_program.specs.declared.End.{End}
use Rattle.replay.specs.node_model.declared.NodeCounts.{NodeCounts}
use Rattle.replay.specs.node_model.Outcome.{Outcome}
use Rattle.prepared_run.specs.Processors.{outcome_head, processor_lines, status_by}
use Rattle.prepared_run.specs.Text.{node_lines}

-- what stands after the bytes printed: how each processor ended, and what each node counted
abbrev pub outcome_tail : List End → List NodeCounts → List ℕ
outcome_tail ends counts = codes "\n" ++ (processor_lines 0 ends ++ node_lines 0 counts)

-- the text of an outcome
abbrev pub text_of : Outcome → List ℕ
text_of o = outcome_head (length o.output) ++ (o.output ++ outcome_tail o.ends o.counts)

-- 0 where every processor ended by itself with code 0, else 1
abbrev pub status_of : Outcome → ℕ
status_of o = status_by o.ends

-- the text and the status of an outcome
abbrev pub IsTextOfOutcome : Outcome → List ℕ → ℕ → Type 0
IsTextOfOutcome o text status = (text ≡ text_of o) × (status ≡ status_of o)

-- the part of an outcome that is told: where that is brief, not what the nodes counted
abbrev pub told : (brief : Bool) → Outcome → Outcome
told true o = record { output = o.output; ends = o.ends; counts = [] }
told false o = o
