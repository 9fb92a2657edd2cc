-- The lines of a node at the start.
use Rattle.std.proofs.Common.{ap, ◌∙◌, cond, eqb}
use Rattle.dsm_protocol.proofs.Names.{home, Exclusive, flags, size}
use Rattle.dsm_protocol.proofs.opening.first_lines.Goals as goal

pub returns : goal.returns
returns c = let l = c.args.layout.now in record {
  states_layout = c.open_blocks.ensures.states_layout ∙ c.in_ok-states.ensures.layout;
  copy_layout = c.open_blocks.ensures.copy_layout ∙ c.in_ok-copy.ensures.layout;
  state = λ b bb. c.open_blocks.ensures.state b bb ∙ ap (λ z. cond (eqb (home l b) c.args.me) Exclusive z)
      (c.in_ok-states.ensures.states b);
  bytes = λ b bb. c.open_blocks.ensures.bytes b bb ∙ ap
      (λ z. cond (eqb (home l b) c.args.me) z (flags (size l b))) (c.in_ok-copy.ensures.bytes b bb);
}
