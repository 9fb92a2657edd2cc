-- The lane is put back behind its turn.
use Rattle.std.proofs.Common.{◌<◌, ◌∙◌, ap, refl, subst, sym, [], None}
use Rattle.lane_machine.specs.Stored.{lane_turn}
use Rattle.lane_machine.proofs.NodesInUse.{same_can, same_in, same_is, same_stamp}
use Rattle.lane_machine.proofs.node.SmpNode.exec_silent.Goals as goal

pub turn-done-requires : goal.turn-done-requires
turn-done-requires c =
    let n = c.requires.node in
    record {
      may = record {
        work = n.0;
        rest = c.args.self.now;
        rests = refl;
        is_node = n.1;
        low = subst (λ z. c.args.lane < z) n.1.lanes.count c.requires.lane;
        may = c.requires.may;
        stamp = c.requires.stamp;
      };
    }

pub put_back-requires : goal.put_back-requires
put_back-requires c =
    let n = c.requires.node in
    let t = c.turn-done.ensures.turned c.args.self.now refl in
    record { node = (n.0, t.rest, t.rests, t.node n.0 n.1) }

pub returns : goal.returns
returns c =
    let t = c.turn-done.ensures.turned c.args.self.now refl in
    let x = c.put_back.new.self in
    let s = c.put_back.ensures.same t.rest t.rests in
    record {
      is_node = λ w is. same_is w t.rest x s (t.node w is);
      turn = λ yes w i is. t.turn yes w i is
          ∙ ap (λ v. lane_turn v [] None) (sym (same_in w i t.rest x s));
      may = λ yes. same_can t.rest x c.args.lane s (t.may yes);
      stamps = λ yes. same_stamp t.rest x s ∙ t.stamps yes;
      kept = λ no w i. same_in w i t.rest x s ∙ t.same no w i;
    }
