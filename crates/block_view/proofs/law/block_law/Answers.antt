use Rattle.std.proofs.Common.{◌≡◌, map, slice_index_or, ap, sym, ◌∙◌, subst, arith}
use Rattle.std.proofs.lemmas.List.FromFn.{get_or-map-range_with_len}
use Rattle.block_layout.specs.Layout.{blocks}
use Rattle.event_text.specs.run_trace.Sums.{counts_from}
use Rattle.event_text.specs.run_trace.Trace.{trace_of}
use Rattle.node_model.specs.Node.{no_counts}
use Rattle.node_model.specs.Outcome.{counts_after}
use Rattle.node_model.specs.Core.{opening_core}
use Rattle.event_text.specs.replay.Told.{events_told, what_told}
use Rattle.block_view.specs.Counts.{AreSumsTo}
use Rattle.block_view.proofs.Known.{run_known}
use Rattle.block_view.proofs.Summing.{sums}
use Rattle.block_view.proofs.law.block_law.Goals as goal

pub returns-clause-known : goal.returns-clause-known
returns-clause-known c = λ work plan told valid.
    run_known work plan (λ b line is. (c.layout_law.ensures.found work.layout b line valid is).0)
    (map what_told told) (opening_core work)

pub returns-clause-sums : goal.returns-clause-sums
returns-clause-sums c = λ m i trace known. sums m i trace known

pub returns-clause-run : goal.returns-clause-run
returns-clause-run c = λ work plan told i valid.
    sums (blocks work.layout) i (trace_of work plan told)
    (run_known work plan (λ b line is. (c.layout_law.ensures.found work.layout b line valid is).0)
    (map what_told told) (opening_core work))

pub returns-clause-counts : goal.returns-clause-counts
returns-clause-counts c = λ work plan told i valid low.
    let trace = trace_of work plan told in
    let said : slice_index_or (counts_after work (events_told told)) i no_counts ≡ counts_from i trace no_counts =
    ap (λ cs. slice_index_or cs i no_counts) (sym (c.trace_law.ensures.counts work plan told))
    ∙ get_or-map-range_with_len (λ k. counts_from k trace no_counts) 0 work.layout.nodes i i no_counts low (omega arith) in
    subst (AreSumsTo (blocks work.layout) i trace) (sym said) (sums (blocks work.layout) i trace
    (run_known work plan (λ b line is. (c.layout_law.ensures.found work.layout b line valid is).0)
    (map what_told told) (opening_core work)))
