use Rattle.std.proofs.Common.{map, ap, sym, ◌∙◌}
use Rattle.std.specs.List.{range_with_len}
use Rattle.replay.specs.node_model.Core.{opening_core}
use Rattle.replay.specs.Told.{what_told}
use Rattle.run_trace.specs.Trace.{trace_of}
use Rattle.run_trace.proofs.Counting.{run_counts}
use Rattle.run_trace.proofs.law.trace_law.Goals as goal

pub returns-clause-one : goal.returns-clause-one
returns-clause-one c = λ work plan r one other a b.
    a.trace_is
    ∙ ap (trace_of work plan) (c.replay_law.ensures.one r a.told b.told a.whole.are_told b.whole.are_told)
    ∙ sym b.trace_is

pub returns-clause-counts : goal.returns-clause-counts
returns-clause-counts c = λ work plan told t.
    map (λ i. run_counts work plan i (map what_told told) (opening_core work) t) (range_with_len 0 work.layout.nodes)
