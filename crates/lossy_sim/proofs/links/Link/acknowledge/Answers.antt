-- The draw decides.
use Rattle.std.proofs.Common.{rules, ◌≡◌, ◌∙◌, true, false, sym, ap, subst}
use Rattle.lossy_link.specs.Sender.{Acknowledges}
use Rattle.lossy_sim.specs.Links.{LossyLink, is_given}
use Rattle.lossy_sim.proofs.Drawn.{acknowledged}
use Rattle.lossy_sim.proofs.links.Link.acknowledge.Goals as goal
use Rattle.lossy_sim.proofs.links.Link.acknowledge.Goals.{then-given, else-given}

pub returns : goal.returns
returns c =
    let told = c.is_given-given.ensures
    ∙ ap (λ (x : LossyLink). is_given x.silent c.next-drawn.result) c.self.view_is in
    elim c.if-given.branch [
      | then-given w ↦ record {
        turn = λ l number h. acknowledged number _ _ c.next-drawn.result l _ _ h c.next-drawn.ensures.goes_on
            c.next-drawn.ensures.chooses (search rules) (search rules) (search rules) (search rules)
            (λ g. subst (λ s. Acknowledges c.args.self.now.sender c.args.self.now.receiver.next s)
            (λ t. (sym w.self-inside-is t).sender)
            (subst (λ (x : LossyLink). Acknowledges x.sender x.receiver.next w.acked.new.self) c.self.view_is
            (subst (λ n. Acknowledges c.self.inside.sender n w.acked.new.self) w.next.ensures w.acked.ensures)))
            (λ g. absurd (let bad : true ≡ false = sym w.if-given.true ∙ told ∙ g in cc));
      }
      | else-given w ↦ record {
        turn = λ l number h. acknowledged number _ _ c.next-drawn.result l _ _ h c.next-drawn.ensures.goes_on
            c.next-drawn.ensures.chooses (search rules) (search rules) (search rules) (search rules)
            (λ g. absurd (let bad : true ≡ false = sym g ∙ sym told ∙ w.if-given.false in cc)) (λ g. search rules);
      }
    ]
