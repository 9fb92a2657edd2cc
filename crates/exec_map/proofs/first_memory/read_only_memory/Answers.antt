use Rattle.std.proofs.Common.{refl, sym, subst}
use Rattle.std.proofs.lemmas.Result.{IfOk-weaker}
use Rattle.exec_map.specs.Contents.{is_read_only, AreRangesOf}
use Rattle.block_layout.specs.Layout.{AreRanges}
use Rattle.exec_map.proofs.LineLemmas.{ascend, lines_of}
use Rattle.exec_map.proofs.first_memory.read_only_memory.Goals as goal

pub memory_of-requires : goal.memory_of-requires
memory_of-requires c =
    let e = c.args.program.now in
    let are : AreRangesOf is_read_only e c.as_slice.result.now = subst (AreRangesOf is_read_only e) (sym c.as_slice.ensures.value) c.in_ok-ranges.ensures.ranges in
    record {
      some = subst AreRanges (sym c.as_slice.ensures.value) c.as_slice.ensures.ranges;
      ascend = ascend is_read_only e c.as_slice.result.now refl c.entry.ensures.accepted (subst AreRanges (sym c.as_slice.ensures.value) c.as_slice.ensures.ranges) are;
    }

pub returns-clause-lines : goal.returns-clause-lines
returns-clause-lines c =
    let e = c.args.program.now in
    let are : AreRangesOf is_read_only e c.as_slice.result.now = subst (AreRangesOf is_read_only e) (sym c.as_slice.ensures.value) c.in_ok-ranges.ensures.ranges in
    IfOk-weaker c.memory_of.result _ _ (λ m is. lines_of is_read_only e c.as_slice.result.now m are is) c.memory_of.ensures.ranges
