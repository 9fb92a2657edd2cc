use Rattle.std.proofs.Common.{sym, ◌∙◌}
use Rattle.one_memory.proofs.reservations.after_store.Goals as goal

pub after_loss-requires : goal.after_loss-requires
after_loss-requires c =
    (c.layout_law.ensures.found c.args.layout.now c.in-Some.block _ c.nodes-valid.ensures.valid (sym c.block_of.ensures ∙ c.in-Some.is)).0
