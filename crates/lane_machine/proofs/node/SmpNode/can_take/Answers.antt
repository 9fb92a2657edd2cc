-- By what its lanes let, and the message.
use Rattle.std.proofs.Common.{◌≡◌, ◌<◌, ◌&&◌, true, false, ap, ◌∙◌, sym, subst}
use Rattle.std.specs.Prelude.{◌||◌, not}
use Rattle.node_machine.specs.miss_handlers.Rows.{takes_away}
use Rattle.lane_model.specs.Nodes.{all_lanes, some_lane}
use Rattle.lane_model.specs.Core.{lane_lets}
use Rattle.lane_machine.specs.SmpNodes.{node_in}
use Rattle.lane_machine.proofs.LanesTold.{and_true, both_lanes}
use Rattle.lane_machine.proofs.node.SmpNode.can_take.Goals as goal

pub returns-then-takes_away : goal.returns-then-takes_away
returns-then-takes_away c = record {
  value = λ w i wire rest is message.
      let f = lane_lets w (node_in w i c.args.self.now) in
      let count = c.requires.lanes ∙ is.lanes.count in
      let takes : takes_away wire.message ≡ true =
      ap takes_away (sym message) ∙ sym c.takes_away.ensures ∙ c.if-takes_away.true in
      c.all_let.ensures.value w i is ∙ ap (all_lanes f) count
      ∙ sym (both_lanes f w.lanes (subst (λ z. 0 < z) count c.requires.some))
      ∙ sym (λ t. some_lane f w.lanes && (not (takes t) || all_lanes f w.lanes));
}

pub returns-else-takes_away : goal.returns-else-takes_away
returns-else-takes_away c = record {
  value = λ w i wire rest is message.
      let f = lane_lets w (node_in w i c.args.self.now) in
      let count = c.requires.lanes ∙ is.lanes.count in
      let takes : takes_away wire.message ≡ false =
      ap takes_away (sym message) ∙ sym c.takes_away.ensures ∙ c.if-takes_away.false in
      c.some_lets.ensures.value w i is ∙ ap (some_lane f) count
      ∙ sym (and_true (some_lane f w.lanes))
      ∙ sym (λ t. some_lane f w.lanes && (not (takes t) || all_lanes f w.lanes));
}
