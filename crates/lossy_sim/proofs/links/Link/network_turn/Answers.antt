-- Every packet of the window has its draw.
use Rattle.std.proofs.Common.{◌≡◌, ◌∙◌, ◌<◌, length, sym, ap, subst, arith}
use Rattle.std.specs.Prelude.{min}
use Rattle.lossy_sim.specs.Links.{LossyLink, packets_drawn}
use Rattle.lossy_sim.specs.Draws.{HasBrought}
use Rattle.lossy_sim.proofs.links.Link.network_turn.Goals as goal

pub loop-k-init : goal.loop-k-init
loop-k-init c = record { brought = c.bring_kept.ensures c.args.losses.now }

pub bring-requires : goal.bring-requires
bring-requires c =
    let sends = ap (λ (x : LossyLink). x.sender) c.self.view_is
    ∙ (c.bring_kept.ensures c.args.losses.now).sender ∙ sym c.loop-k.invariant.brought.sender in
    let end : c.in_window-k-end.result ≡ packets_drawn c.loop-k.self = c.in_window-k-end.ensures
    ∙ (λ t. min (c.self.invariant.0 t) (length (sends t).items)) in
    record { there = subst (λ n. c.loop-k.k < n) end c.loop-k-test.true }

pub returns : goal.returns
returns c =
    let sends = ap (λ (x : LossyLink). x.sender) c.self.view_is
    ∙ (c.bring_kept.ensures c.args.losses.now).sender in
    let end : c.in_window-k-end.result ≡ packets_drawn c.args.self.now = c.in_window-k-end.ensures
    ∙ (λ t. min (c.self.invariant.0 t) (length (sends t).items)) in
    let last : c.loop-k.k ≡ c.in_window-k-end.result = omega (arith, c.loop-k-test.false, c.loop-k.auto.k-end) in
    record {
      turn = c.acknowledge.ensures.turn c.args.self.now c.args.losses.now
          (subst (λ k. HasBrought c.args.losses.now k c.args.self.now c.loop-k.losses c.loop-k.self)
          (last ∙ end) c.loop-k.invariant.brought);
    }
