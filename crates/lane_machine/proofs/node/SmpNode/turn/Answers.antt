-- The lane is in use, and executes its word.
use Rattle.std.proofs.Common.{subst, sym, Some}
use Rattle.lane_machine.specs.SmpNodesInUse.{HasTurned, RestsAs}
use Rattle.lane_machine.proofs.NodesInUse.{may_turn_as, not_turned, turned_from}
use Rattle.lane_machine.proofs.node.SmpNode.turn.Goals as goal

pub returns-then-not-use_lane : goal.returns-then-not-use_lane
returns-then-not-use_lane c = record {
  turned = λ y r.
      let z = c.use_lane.ensures.rests y r in
      not_turned y z.0 c.args.lane c.use_lane.new.self c.use_lane.new.used z.1 z.2;
}

pub exec_in_use-requires : goal.exec_in_use-requires
exec_in_use-requires c =
    let m = c.requires.may in
    let z = c.use_lane.ensures.rests m.rest m.rests in
    record {
      may = may_turn_as c.use_lane.new.self c.args.used.now c.args.lane c.args.self.now m z.0 z.2
          (subst (λ o. RestsAs c.use_lane.new.self o z.0)
          (c.use_lane.ensures.used c.if-not-use_lane.false) z.1);
    }

pub returns : goal.returns
returns c =
    let used = c.use_lane.ensures.used c.if-not-use_lane.false in
    let k = c.args.lane in
    let x = c.exec_in_use.new.self in
    let done = c.exec_in_use.result in
    record {
      turned = λ y r.
          let z = c.use_lane.ensures.rests y r in
          subst (λ o. HasTurned y k done x o) (sym used) (turned_from y z.0 k done x (Some k) z.2
          (c.exec_in_use.ensures.turned z.0 (subst (λ o. RestsAs c.use_lane.new.self o z.0) used z.1)));
    }
