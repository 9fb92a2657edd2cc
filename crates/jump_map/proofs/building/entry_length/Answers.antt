use Rattle.std.proofs.Common.{arith}
use Rattle.jump_map.proofs.ExpansionLemmas.{entry_length}
use Rattle.jump_map.proofs.building.entry_length.Goals as goal

pub returns-clause-value : goal.returns-clause-value
returns-clause-value c =
    let long = entry_length c.args.code.now c.args.entry.now c.at.result c.at.ensures.value in
    let batch = c.batch_length.ensures.value in
    let single = c.sequence_length.ensures.value in
    omega (arith, long, batch, single)
