use Rattle.std.specs.Prelude.{map}
use Rattle.one_memory.specs.Shown.{pick_of}
use Rattle.run_trace.specs.replay.dsm_core.CoreParts.{work_in}
use Rattle.run_trace.specs.Tracing.{events_to_trace}
use Rattle.record_picks.proofs.Ways.{IsPicked}
use Rattle.record_picks.proofs.picks_of_record.Given as goal

abbrev pub invariant-loop-picks : goal.invariant-loop-picks
invariant-loop-picks l = IsPicked (work_in l.fn.work) l.plan l.rec l.tracer (map pick_of l.picks.items)

abbrev pub decreases-loop-picks : goal.decreases-loop-picks
decreases-loop-picks l = events_to_trace l.tracer
