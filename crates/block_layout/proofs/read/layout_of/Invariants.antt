use Rattle.block_layout.proofs.read.layout_of.Given as goal

abbrev pub ghost-new : goal.ghost-new
ghost-new g a = g.s
