use Rattle.elf32_read.specs.Fields.{file_header}
use Rattle.elf32_read.proofs.headers.file_header.Goals as goal

pub returns : goal.returns
unfolding file_header
returns c = cc
