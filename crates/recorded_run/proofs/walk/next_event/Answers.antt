use Rattle.std.proofs.Common.{inl, inr}
use Rattle.event_text.specs.run_trace.Tracing.{record_traced, work_traced}
use Rattle.recorded_run.proofs.walk.next_event.Goals as goal

pub unreachable-requires : goal.unreachable-requires
unreachable-requires c =
    let t = c.args.tracer.now in
    let rule = c.in-Err-Broken.field-0-0 in
    let node = c.in-Err-Broken.field-0-1 in
    let entry = c.in-Err-Broken.field-0-2 in
    let is = c.in-Err-Broken.is in
    let rule_is = c.in-Err-Broken.field-0-is in
    let told = c.requires.whole in
    elim (c.next.ensures.refused rule node entry (cc)) [
      | inl broken ↦ c.replay_law.ensures.either (work_traced t) (record_traced t) told.0 rule node entry told.1 broken
      | inr early ↦ c.replay_law.ensures.ended (work_traced t) (record_traced t) told.0 rule node entry told.1 early
    ]
