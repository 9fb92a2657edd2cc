-- One node more.
use Rattle.std.proofs.Common.{[], ◌∷◌, ◌++◌, List, ap, ap₂, ◌∙◌, sym, arith}
use Rattle.std.proofs.lemmas.List.FromFn.{map-range_with_len_more}
use Rattle.node_model.specs.declared.Entry.{Entry}
use Rattle.node_model.specs.Node.{Node}
use Rattle.dsm_core.specs.CoreParts.{core_of}
use Rattle.run_record.specs.Lists.{items_of}
use Rattle.commands.proofs.RecordLemmas.{items_more}
use Rattle.commands.proofs.record.journals.Goals as goal

pub loop-node-preserved : goal.loop-node-preserved
loop-node-preserved c =
    let core = core_of c.args.core.now in
    let k = c.loop-node.node in
    ap items_of c.in_ok-push.ensures.items
    ∙ items_more c.loop-node.journals.items c.in_ok-from_slice.field-0
    ∙ ap₂ (λ (xs : List (List Entry)) (x : List Entry). xs ++ x ∷ []) c.loop-node.invariant
    (c.in_ok-from_slice.ensures.items ∙ c.journal.ensures.value
    ∙ ap (λ (n : Node). n.journal) c.node.ensures.value)
    ∙ sym (map-range_with_len_more (λ i. (core.nodes i).journal) 0 k k (omega arith))
