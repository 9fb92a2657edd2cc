use Rattle.std.proofs.Common.{◌≡◌, ap}
use Rattle.elf32_read.specs.Fields.{file_header, program_header_at}
use Rattle.elf32_read.specs.declared.headers.FileHeader.{FileHeader}
use Rattle.elf32_read.proofs.headers.program_header.Goals as goal

pub returns : goal.returns
unfolding program_header_at
returns c =
    let at : c.args.header.e_phoff ≡ (file_header c.args.file.now).e_phoff =
    ap (λ (h : FileHeader). h.e_phoff) c.requires.tables.is in
    cc
