use Rattle.std.proofs.Common.{refl}
use Rattle.jump_map.proofs.sequences.polled_at.Goals as goal

pub returns-in-Some : goal.returns-in-Some
returns-in-Some c =
    c.poll_over.ensures c.args.micros.now c.args.k (c.if-not-polls_at.ensures refl) c.in-Some.ensures
