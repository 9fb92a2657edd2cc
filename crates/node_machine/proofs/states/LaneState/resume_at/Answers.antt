-- A processor that isn't stopped has words left.
use Rattle.node_words.specs.node_model.Node.{Resumed}
use Rattle.node_machine.specs.NodeState.{phase_of}
use Rattle.node_machine.proofs.NodeStateLemmas.{stop_goes}
use Rattle.node_machine.proofs.states.LaneState.resume_at.Goals as goal

pub returns-clause-lane : goal.returns-clause-lane
returns-clause-lane c =
    let l = c.args.self.now in
    let is = c.requires.lane in
    record {
      within = is.within;
      going = stop_goes l.budget l.executed (phase_of c.stop_or-self.result) Resumed c.stop_or-self.ensures is.within;
      range = is.range;
      short = is.short;
    }
