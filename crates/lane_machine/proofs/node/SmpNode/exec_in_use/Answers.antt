-- The turn of a lane in use is its node's.
use Rattle.lane_machine.proofs.NodesInUse.{has_turned, use_alone, use_goes_on, use_idle, use_low, use_may, use_stamp}
use Rattle.lane_machine.proofs.node.SmpNode.exec_in_use.Goals as goal

pub exec_in_use-requires-clause-number : goal.exec_in_use-requires-clause-number
exec_in_use-requires-clause-number c =
    let x = c.args.self.now in
    let k = c.args.lane in
    let l = c.index_mut.result.now in
    let at = c.index_mut.ensures.value in
    let m = c.requires.may in
    use_low x k l at m.work m.rest m.rests m.is_node

pub exec_in_use-requires-clause-idle : goal.exec_in_use-requires-clause-idle
exec_in_use-requires-clause-idle c =
    let x = c.args.self.now in
    let k = c.args.lane in
    let l = c.index_mut.result.now in
    let at = c.index_mut.ensures.value in
    let m = c.requires.may in
    use_idle x k l at m.work m.rest m.rests m.is_node m.may

pub exec_in_use-requires-clause-may : goal.exec_in_use-requires-clause-may
exec_in_use-requires-clause-may c =
    let x = c.args.self.now in
    let k = c.args.lane in
    let l = c.index_mut.result.now in
    let at = c.index_mut.ensures.value in
    let m = c.requires.may in
    use_may x k l at m.work m.rest m.rests m.is_node m.may

pub exec_in_use-requires-clause-goes_on : goal.exec_in_use-requires-clause-goes_on
exec_in_use-requires-clause-goes_on c =
    let x = c.args.self.now in
    let k = c.args.lane in
    let l = c.index_mut.result.now in
    let at = c.index_mut.ensures.value in
    let m = c.requires.may in
    use_goes_on x k l at m.work m.rest m.rests m.is_node m.may

pub exec_in_use-requires-clause-alone : goal.exec_in_use-requires-clause-alone
exec_in_use-requires-clause-alone c =
    let x = c.args.self.now in
    let k = c.args.lane in
    let l = c.index_mut.result.now in
    let at = c.index_mut.ensures.value in
    let m = c.requires.may in
    use_alone x k l at m.work m.rest m.rests m.is_node

pub exec_in_use-requires-clause-stamp : goal.exec_in_use-requires-clause-stamp
exec_in_use-requires-clause-stamp c =
    let x = c.args.self.now in
    let k = c.args.lane in
    let l = c.index_mut.result.now in
    let at = c.index_mut.ensures.value in
    let m = c.requires.may in
    use_stamp x k l at m.work m.rest m.rests m.is_node m.stamp

pub returns : goal.returns
returns c =
    let x = c.args.self.now in
    let k = c.args.lane in
    let l = c.index_mut.result.now in
    let at = c.index_mut.ensures.value in
    let m = c.requires.may in
    let e = c.exec_in_use.ensures in
    record {
      turned = λ y u. has_turned x k l at c.exec_in_use.new.self c.exec_in_use.new.shared
          c.exec_in_use.result e.turn e.ended e.may e.waits e.held e.stamps e.same e.kept e.places
          e.number e.work m.work m.rest m.rests m.is_node y u;
    }
