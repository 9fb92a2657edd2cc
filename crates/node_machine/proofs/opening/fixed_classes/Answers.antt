use Rattle.std.proofs.Common.{◌∙◌, sym, subst}
use Rattle.block_layout.specs.Layout.{AreRanges}
use Rattle.node_words.specs.exec_map.Contents.{is_read_only, AreRangesOf}
use Rattle.state_table.specs.LineClasses.{AreClasses}
use Rattle.node_machine.specs.Opening.{AreFixedClasses}
use Rattle.node_machine.proofs.OpeningLemmas.{are_classes, are_fixed}
use Rattle.node_machine.proofs.opening.fixed_classes.Goals as goal

pub new-requires : goal.new-requires
new-requires c =
    let e = c.args.program.now in
    let rs = c.as_slice.result.now in
    let are : AreRangesOf is_read_only e rs = subst (AreRangesOf is_read_only e) (sym c.as_slice.ensures.value) c.in_ok-ranges.ensures.ranges in
    let ranges : AreRanges rs = subst AreRanges (sym c.as_slice.ensures.value) c.as_slice.ensures.ranges in
    subst AreClasses (sym c.in_ok-all_classes.ensures) (are_classes e rs c.entry.ensures.accepted ranges are)

pub returns : goal.returns
returns c =
    let e = c.args.program.now in
    let rs = c.as_slice.result.now in
    let are : AreRangesOf is_read_only e rs = subst (AreRangesOf is_read_only e) (sym c.as_slice.ensures.value) c.in_ok-ranges.ensures.ranges in
    subst (AreFixedClasses e) (sym (c.new.ensures ∙ c.in_ok-all_classes.ensures)) (are_fixed e rs are)
