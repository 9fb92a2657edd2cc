-- The lane may be in use already, or another one.
use Rattle.std.proofs.Common.{sym, subst}
use Rattle.lane_machine.specs.SmpNodesInUse.{MayTurn, RestsAs}
use Rattle.lane_machine.proofs.NodesInUse.{same_node_itself}
use Rattle.lane_machine.proofs.node.SmpNode.use_lane.Goals as goal

pub returns-then-is_lane-clause-rests : goal.returns-then-is_lane-clause-rests
returns-then-is_lane-clause-rests c = λ y r. (y, r, same_node_itself y)

pub returns-then-change_lane-clause-rests : goal.returns-then-change_lane-clause-rests
returns-then-change_lane-clause-rests c = c.change_lane.ensures.rests c.if-change_lane.true

pub put_in_use-requires : goal.put_in_use-requires
put_in_use-requires c =
    let k = c.args.lane in
    let e = c.change_lane.ensures in
    let no = c.if-change_lane.false in
    record {
      may = subst (λ x. MayTurn x c.change_lane.new.used k) (sym (e.kept no))
          (subst (λ o. MayTurn c.args.self.now o k) (sym (e.same no)) c.requires.may);
    }

pub returns-clause-rests : goal.returns-clause-rests
returns-clause-rests c = λ y r.
    let e = c.change_lane.ensures in
    let no = c.if-change_lane.false in
    c.put_in_use.ensures.rests y (subst (λ x. RestsAs x c.change_lane.new.used y) (sym (e.kept no))
    (subst (λ o. RestsAs c.args.self.now o y) (sym (e.same no)) r))
