-- By the draw.
use Rattle.std.proofs.Common.{rules, ◌/◌, ◌^◌, arith}
use Rattle.std.proofs.lemmas.Nat.{mod_below}
use Rattle.random_order.specs.Orders.{following}
use Rattle.dsm_core.proofs.CoreSteps.{on_ok}
use Rattle.lossy_sim.proofs.Drawn.{HasDrawn, drawn_lost, drawn_once, drawn_twice, drawn_kept, three_of}
use Rattle.lossy_sim.proofs.links.Link.bring.Goals as goal

pub returns-in-0 : goal.returns-in-0
returns-in-0 c =
    let g : HasDrawn c.args.k c.args.losses.now c.args.self.now c.draw.result c.draw.new.losses c.draw.new.self =
    record { draw = c.draw.ensures.draw; link = c.draw.ensures.link; draws = c.draw.ensures.draws } in
    record { brought = λ l number h. drawn_lost c.args.k number _ _ c.draw.result l _ _ g c.in-0.is h }

pub returns-in_ok-receive-in-1 : goal.returns-in_ok-receive-in-1
returns-in_ok-receive-in-1 c =
    let g : HasDrawn c.args.k c.args.losses.now c.args.self.now c.draw.result c.draw.new.losses c.draw.new.self =
    record { draw = c.draw.ensures.draw; link = c.draw.ensures.link; draws = c.draw.ensures.draws } in
    record {
      brought = on_ok c.receive-in-1.result
          (λ s l number h. drawn_twice c.args.k number _ _ c.draw.result l _ _ _ _ g c.in-1.is
          c.in_ok-receive-in-1.ensures.received s h) c.receive-in-1.ensures.received;
    }

pub returns-in-2 : goal.returns-in-2
returns-in-2 c =
    let g : HasDrawn c.args.k c.args.losses.now c.args.self.now c.draw.result c.draw.new.losses c.draw.new.self =
    record { draw = c.draw.ensures.draw; link = c.draw.ensures.link; draws = c.draw.ensures.draws } in
    record {
      brought = on_ok c.receive-in-2.result
          (λ s l number h. drawn_once c.args.k number _ _ c.draw.result l _ _ _ g c.in-2.is s h)
          c.receive-in-2.ensures.received;
    }

pub returns-in_default : goal.returns-in_default
returns-in_default c =
    let g : HasDrawn c.args.k c.args.losses.now c.args.self.now c.draw.result c.draw.new.losses c.draw.new.self =
    record { draw = c.draw.ensures.draw; link = c.draw.ensures.link; draws = c.draw.ensures.draws } in
    record {
      brought = on_ok c.keep.result
          (λ s l number h. drawn_kept c.args.k number _ _ c.draw.result l _ _ _ g
          (three_of c.args.k c.args.losses.now c.args.self.now.lost c.draw.result c.draw.ensures.draw
          (mod_below (following c.args.losses.now / 2 ^ 16) 4 (omega arith)) (search rules) (search rules) (search rules)) s h)
          c.keep.ensures.kept;
    }
