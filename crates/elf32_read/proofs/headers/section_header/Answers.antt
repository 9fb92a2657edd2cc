use Rattle.std.proofs.Common.{◌≡◌, ap}
use Rattle.elf32_read.specs.Fields.{file_header, section_header_at}
use Rattle.elf32_read.specs.declared.headers.FileHeader.{FileHeader}
use Rattle.elf32_read.proofs.headers.section_header.Goals as goal

pub returns : goal.returns
unfolding section_header_at
returns c =
    let at : c.args.header.e_shoff ≡ (file_header c.args.file.now).e_shoff =
    ap (λ (h : FileHeader). h.e_shoff) c.requires.tables.is in
    cc
