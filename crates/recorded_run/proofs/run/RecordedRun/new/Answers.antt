use Rattle.std.proofs.Common.{refl}
use Rattle.recorded_run.proofs.Showing.{holds_at_start}
use Rattle.recorded_run.proofs.run.RecordedRun.new.Goals as goal

pub invariant_of-result : goal.invariant_of-result
invariant_of-result c =
    holds_at_start _ _ _ _ _ _ c.in_ok-debugged.ensures refl refl c.nodes_of-nodes.ensures c.requires.picks c.requires.code c.requires.record
    c.requires.nodes
