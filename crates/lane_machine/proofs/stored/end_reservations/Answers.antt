-- The block of an address is one of the layout's.
use Rattle.std.proofs.Common.{◌/◌, ◌∙◌, sym}
use Rattle.lane_machine.proofs.stored.end_reservations.Goals as goal

pub clear-requires : goal.clear-requires
clear-requires c =
    (c.layout_law.ensures.found c.args.layout.now c.in-Some-block_of.block (c.in-Some.address / 64) c.nodes.ensures.valid
    (sym c.block_of.ensures ∙ c.in-Some-block_of.is)).0
