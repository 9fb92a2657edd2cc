-- The journal of a node in the list of journals.
use Rattle.std.proofs.Common.{ap, sym, ◌∙◌, slice_index_or, [], length, ◌<◌, arith}
use Rattle.replay.proofs.Cursors.{items_length, items_at}
use Rattle.replay.proofs.cursor.Cursors.journal.Goals as goal

pub bounds-as_slice-node : goal.bounds-as_slice-node
bounds-as_slice-node c =
    let count = items_length c.as_slice.result.now in
    let same = ap length c.as_slice.ensures in
    let is = c.requires.record.each in
    omega (arith, count, same, is)

pub returns : goal.returns
returns c =
    let count = items_length c.as_slice.result.now in
    let same = ap length c.as_slice.ensures in
    let is = c.requires.record.each in
    let within : c.args.node < length c.as_slice.result.now = omega (arith, count, same, is) in
    record {
      value = c.deref.ensures.value
          ∙ sym (items_at c.as_slice.result.now c.args.node c.index-as_slice-node.result within
          c.index-as_slice-node.is) ∙ ap (λ l. slice_index_or l c.args.node []) c.as_slice.ensures;
    }
