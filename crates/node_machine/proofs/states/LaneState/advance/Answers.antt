-- A processor that may go on has words left.
use Rattle.std.proofs.Common.{◌+◌, arith}
use Rattle.node_machine.specs.NodeState.{phase_of}
use Rattle.node_machine.proofs.NodeStateLemmas.{following_runs}
use Rattle.node_machine.proofs.states.LaneState.advance.Goals as goal

pub returns-clause-lane : goal.returns-clause-lane
returns-clause-lane c =
    let l = c.args.self.now in
    let low = c.requires.lane.going c.requires.may in
    record {
      within = omega (arith, low);
      going = λ may. following_runs l.budget (l.executed + 1) c.args.served.following (phase_of c.phase_by-self.result) c.phase_by-self.ensures (omega (arith, low)) may;
      range = c.requires.lane.range;
      short = c.requires.lane.short;
    }
