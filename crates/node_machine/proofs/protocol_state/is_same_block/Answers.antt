use Rattle.std.proofs.Common.{sym, Some, None}
use Rattle.node_words.specs.node_memory.Shelf.{want_of}
use Rattle.node_machine.proofs.BlockLemmas.{LineLaws}
use Rattle.node_machine.proofs.ProtocolLemmas.{same_by}
use Rattle.node_machine.proofs.protocol_state.is_same_block.Goals as goal

pub returns-in-Some-block_of-clause-value : goal.returns-in-Some-block_of-clause-value
returns-in-Some-block_of-clause-value c =
    let law = c.layout_law.ensures in
    let laws : LineLaws = record { ends = law.ends; has = law.has; found = law.found; shared = law.shared; some = law.some } in
    sym (same_by laws c.args.local.now.copy.layout c.laws.ensures.valid (want_of c.args.first) (want_of c.args.other) c.in-Some.block (sym c.in-Some.ensures)
    (Some c.in-Some-block_of.also) (sym c.in-Some-block_of.ensures))

pub returns-in-None-clause-value : goal.returns-in-None-clause-value
returns-in-None-clause-value c =
    let law = c.layout_law.ensures in
    let laws : LineLaws = record { ends = law.ends; has = law.has; found = law.found; shared = law.shared; some = law.some } in
    sym (same_by laws c.args.local.now.copy.layout c.laws.ensures.valid (want_of c.args.first) (want_of c.args.other) c.in-Some.block (sym c.in-Some.ensures)
    None (sym c.in-None.ensures))
