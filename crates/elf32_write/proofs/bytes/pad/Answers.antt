use Rattle.std.proofs.Common.{◌∙◌, ◌++◌, ◌-◌, ap, vec_len, arith}
use Rattle.std.proofs.lemmas.List.{take_all}
use Rattle.elf32_write.specs.Layout.{zeros}
use Rattle.elf32_write.proofs.bytes.pad.Goals as goal

pub returns-clause-items : goal.returns-clause-items
unfolding zeros
returns-clause-items c =
    c.in_ok-resize.ensures.items
    ∙ ap (λ xs. xs ++ zeros (c.args.offset - vec_len c.args.out.now))
    (take_all c.args.offset c.args.out.now.items (omega (arith, c.args.out.now.ok.0)))
