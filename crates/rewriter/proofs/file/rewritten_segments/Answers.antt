use Rattle.std.proofs.Common.{◌<◌, length, rules}
use Rattle.rewriter.proofs.FileLemmas.{one_segment}
use Rattle.rewriter.proofs.file.rewritten_segments.Goals as goal

pub loop-segment-preserved : goal.loop-segment-preserved
loop-segment-preserved c =
    let items = c.segments-segment-items.result.now in
    let here : c.loop-segment.segment-index < length items = search rules in
    one_segment items c.loop-segment.segments.items c.push.new.self.items c.args.original.now.segments
    c.loop-segment.segment-index _ c.without_execution.result c.segments-segment-items.ensures.value here
    c.loop-segment.invariant (search rules) c.without_execution.ensures.value
