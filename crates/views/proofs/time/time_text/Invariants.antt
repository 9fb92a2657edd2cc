use Rattle.std.proofs.Common.{◌≡◌, ◌++◌, drop}
use Rattle.views.specs.Time.{spent_lines}
use Rattle.views.proofs.time.time_text.Given as goal

-- the lines that are to come, behind those that there are, make the whole
abbrev pub invariant-loop-node : goal.invariant-loop-node
invariant-loop-node l = l.text.items ++ spent_lines l.node l.time (drop l.node l.spent) ≡ spent_lines 0 l.time l.spent
