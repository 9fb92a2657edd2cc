use Rattle.std.proofs.Common.{◌++◌, ◌∷◌, [], List, map, take, get_or, ap, ◌∙◌, arith}
use Rattle.std.proofs.lemmas.List.{take_more}
use Rattle.block_layout.specs.declared.ranges.Lines.{Lines}
use Rattle.state_table.specs.declared.classes.LineClass.{LineClass}
use Rattle.node_machine.specs.Opening.{read_only_class, window_class}
use Rattle.node_machine.proofs.OpeningLemmas.{classes_push, no_lines, take_whole}
use Rattle.node_machine.proofs.opening.all_classes.Goals as goal

pub loop-lines-preserved : goal.loop-lines-preserved
loop-lines-preserved c =
    let rs = c.args.ranges.now in
    let i = c.loop-lines.lines-index in
    let more = take_more rs i no_lines (omega (arith, c.loop-lines-test.true)) in
    let r = get_or rs i no_lines in
    record {
      items = rw (more, classes_push (take i rs) r) (c.in_ok-push.ensures.items ∙ ap (λ (qs : List LineClass). qs ++ read_only_class r ∷ []) c.loop-lines.invariant.items);
    }

pub returns : goal.returns
returns c =
    let rs = c.args.ranges.now in
    let whole = take_whole rs c.loop-lines.lines-index c.loop-lines-test.false in
    c.in_ok-push-2.ensures.items
    ∙ ap (λ (qs : List LineClass). qs ++ window_class ∷ []) (c.loop-lines.invariant.items ∙ ap (λ (qs : List Lines). map read_only_class qs) whole)
