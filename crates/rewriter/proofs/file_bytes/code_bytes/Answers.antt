use Rattle.std.proofs.Common.{◌<◌, length, rules}
use Rattle.rewriter.proofs.FileLemmas.{one_more}
use Rattle.rewriter.proofs.file_bytes.code_bytes.Goals as goal

pub loop-k-preserved : goal.loop-k-preserved
loop-k-preserved c =
    let here : c.loop-k.k < length c.args.image.now = search rules in
    one_more c.args.image.now c.loop-k.k c.word_of.result _ _ here c.word_of.ensures.value
    c.loop-k.invariant (search rules)
