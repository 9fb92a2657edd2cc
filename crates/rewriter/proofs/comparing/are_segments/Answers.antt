use Rattle.std.proofs.Common.{◌≡◌, ◌<◌, length, rules}
use Rattle.rewriter.proofs.FileLemmas.{differ_at}
use Rattle.rewriter.proofs.comparing.are_segments.Goals as goal

pub returns-then-not-is_segment : goal.returns-then-not-is_segment
returns-then-not-is_segment c =
    let here : c.loop-k.k < length c.args.ones.now = search rules in
    let long : length c.args.ones.now ≡ length c.args.others.now = search rules in
    record {
      value = (
        λ t. absurd (cc t),
        λ same. absurd (differ_at c.args.ones.now c.args.others.now c.loop-k.k _ here long
            (λ e. let t = c.is_segment.ensures.value.1 e in absurd (cc (t, c.if-not-is_segment.true))) same),
      );
    }
