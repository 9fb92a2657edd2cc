use Rattle.std.proofs.Common.{◌≡◌}
use Rattle.templates.specs.Code.{code_of}
use Rattle.poll_plan.specs.Polls.{with_polls}
use Rattle.poll_plan.proofs.PollLemmas.{map_first}
use Rattle.poll_plan.proofs.polls.plan_polls.Given as goal

abbrev pub invariant-loop-k : goal.invariant-loop-k
invariant-loop-k l = l.plan ≡ map_first (with_polls (code_of l.graph)) l.k l.initial.plan
