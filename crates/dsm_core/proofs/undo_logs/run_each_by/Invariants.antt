use Rattle.std.proofs.Common.{◌≡◌, ◌≤◌, List, length, slice_index_or}
use Rattle.node_machine.specs.jump_map.Image.{Cell}
use Rattle.dsm_core.specs.CoreSteps.{HaveLearnedBelow, SameWorks}
use Rattle.dsm_core.specs.UndoLogs.{HaveGone, TakeBack, AreSameFrom}
use Rattle.dsm_core.proofs.undo_logs.run_each_by.Given as goal

abbrev pub invariant-loop-node : goal.invariant-loop-node
invariant-loop-node g l = record {
  nodes : length l.nodes.items ≡ l.count;
  undo_logs : length l.undo_logs.items ≡ l.count;
  works : SameWorks l.initial.nodes.items l.nodes.items;
  gone : HaveGone (λ i. slice_index_or l.words i 0) l.node l.initial.nodes.items l.nodes.items;
  learned : HaveLearnedBelow g.L.WordLoop.learns (λ i. slice_index_or l.words i 0) l.node l.initial.nodes.items l.fn.by l.by;
  stays : (image : List Cell) → g.L.WordLoop.goes_over image l.fn.by → g.L.WordLoop.goes_over image l.by;
  within : l.node ≤ l.count;
  back : TakeBack l.node l.undo_logs.items l.nodes.items l.initial.nodes.items;
  rest : AreSameFrom l.node l.initial.nodes.items l.nodes.items;
}
