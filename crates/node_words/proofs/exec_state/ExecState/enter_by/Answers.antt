use Rattle.std.proofs.Common.{◌≡◌, Bool, true, false, Some, refl, subst, sym}
use Rattle.node_memory.specs.micro_op.Micro.{Meaning}
use Rattle.node_words.specs.Kept.{StepsTo}
use Rattle.node_words.specs.Strides.{IsTried, StepsBy}
use Rattle.node_words.proofs.exec_state.ExecState.enter_by.Goals as goal

pub returns : goal.returns
returns c = record { tried = by c.enter.result refl; inside = c.enter.ensures.inside }
  where
    by : (r : Bool) → c.enter.result ≡ r
        → IsTried r (StepsBy c.args.image.now c.args.op.now c.args.going.now c.args.self.now c.enter.new.going c.args.self.now)
        c.args.going.now c.args.self.now c.enter.new.going c.args.self.now
    by true is =
        let b = c.args.self.now in
        record {
          one = c.enter.ensures.left is;
          low = c.enter.ensures.low is;
          steps = subst (λ (x : Meaning). StepsTo c.args.image.now x c.args.going.now.at b.lane b.local b.lane b.local
              (Some c.enter.new.going.at)) (sym c.requires.means) (c.enter.ensures.steps is c.args.going.now.at);
        }
    by false is = record { place = c.enter.ensures.none is; lane = refl; local = refl }
