use Rattle.std.proofs.Common.{◌<◌, rules}
use Rattle.liveness.proofs.live.Live.dead_at.Goals as goal

pub returns : goal.returns
returns c =
    let lt : c.args.r < 32 = search rules in
    record {
      dead = λ i h.
          let m = c.all_dead_at.ensures.members i c.args.r h c.requires.nonzero lt in
          (λ t. m.0 (c.has.ensures.0 t), λ d. c.has.ensures.1 (m.1 d));
    }
