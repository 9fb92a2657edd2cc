-- By the lane's own part.
use Rattle.std.proofs.Common.{ap, sym, ◌∙◌, cond}
use Rattle.std.specs.Prelude.{option_and_then}
use Rattle.lane_model.specs.node_model.jump_map.Maps.{fetch}
use Rattle.lane_model.specs.node_model.jump_map.declared.image.ImageWord.{ImageWord}
use Rattle.node_machine.specs.node_words.Address.{word_address}
use Rattle.lane_model.specs.node_model.declared.Standing.TheVariants as standing
use Rattle.lane_model.specs.node_model.Node.{takes_messages}
use Rattle.node_machine.specs.NodeState.{phase_of}
use Rattle.lane_model.specs.Core.{standing_in}
use Rattle.lane_machine.specs.declared.stored.StoredLane.{StoredLane}
use Rattle.lane_machine.specs.Stored.{part_of}
use Rattle.lane_machine.proofs.StandingLemmas.{stands_by}
use Rattle.lane_machine.proofs.lane.Lane.standing.Goals as goal

pub returns-in-Running : goal.returns-in-Running
returns-in-Running c = record {
  value = λ w x k image is.
      let p = part_of c.self.inside.inner in
      let here = is ∙ ap part_of (sym c.self.view_is) in
      let l = c.self.inside.inner in
      let found = c.next_word.ensures
      ∙ ap (λ cells. fetch cells (word_address l.state.at)) (sym (image ∙ ap (λ (m : StoredLane). m.state.image.now) (sym c.self.view_is))) in
      c.standing_at.ensures
      ∙ ap (λ o. cond (takes_messages (option_and_then (λ (v : ImageWord). v.what) o)) standing.AtPoll standing.Running) found
      ∙ sym (stands_by w x k p here
      ∙ ap (standing_in w (record { lanes = λ j. p; shared = x.shared }) k) (ap phase_of c.in-Running.is));
}

pub returns-in-Resumed : goal.returns-in-Resumed
returns-in-Resumed c = record {
  value = λ w x k image is.
      let p = part_of c.self.inside.inner in
      let here = is ∙ ap part_of (sym c.self.view_is) in
      sym (stands_by w x k p here
      ∙ ap (standing_in w (record { lanes = λ j. p; shared = x.shared }) k) (ap phase_of c.in-Resumed.is));
}

pub returns-in-Waiting : goal.returns-in-Waiting
returns-in-Waiting c = record {
  value = λ w x k image is.
      let p = part_of c.self.inside.inner in
      let here = is ∙ ap part_of (sym c.self.view_is) in
      sym (stands_by w x k p here
      ∙ ap (standing_in w (record { lanes = λ j. p; shared = x.shared }) k) (ap phase_of c.in-Waiting.is));
}

pub returns-in-Ended : goal.returns-in-Ended
returns-in-Ended c = record {
  value = λ w x k image is.
      let p = part_of c.self.inside.inner in
      let here = is ∙ ap part_of (sym c.self.view_is) in
      sym (stands_by w x k p here
      ∙ ap (standing_in w (record { lanes = λ j. p; shared = x.shared }) k) (ap phase_of c.in-Ended.is));
}
