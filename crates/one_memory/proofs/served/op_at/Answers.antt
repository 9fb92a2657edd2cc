use Rattle.std.proofs.Common.{length, refl}
use Rattle.std.proofs.lemmas.Option.{slice_get_read}
use Rattle.one_memory.proofs.served.op_at.Goals as goal

pub returns : goal.returns
returns c =
    let ops = c.args.ops.now in
    slice_get_read ops (length ops) c.args.going.now.at c.index-ops-at.result refl c.requires
    (rw c.at.ensures at c.index-ops-at.is)
