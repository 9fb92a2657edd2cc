use Rattle.block_layout.proofs.read.read_layout.Given as goal

abbrev pub ghost-layout_of : goal.ghost-layout_of
ghost-layout_of a = record { shared = a.shared; named = a.named; nodes = a.nodes }
