use Rattle.elf32_write.proofs.LayoutLemmas.{header_written, identification-is}
use Rattle.elf32_write.proofs.table.push_file_header.Goals as goal

pub returns-clause-items : goal.returns-clause-items
returns-clause-items c =
    header_written c.args.out.now.items c.extend_from_slice.new.self.items c.push_halves.new.out.items c.push_words.new.out.items
    c.push_halves-2.new.out.items _ c.args.entry c.args.flags c.args.segments c.args.table identification-is
    c.in_ok-extend_from_slice.ensures.items c.in_ok-push_halves.ensures.items c.in_ok-push_words.ensures.items
    c.in_ok-push_halves-2.ensures.items
