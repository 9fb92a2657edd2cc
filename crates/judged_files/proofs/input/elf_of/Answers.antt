use Rattle.judged_files.proofs.input.elf_of.Goals as goal

pub returns-in_ok-file_line-in-Err-Broken-clause-refused :
    goal.returns-in_ok-file_line-in-Err-Broken-clause-refused
returns-in_ok-file_line-in-Err-Broken-clause-refused c =
    let is = c.in-Err-Broken.is in
    let rule_is = c.in-Err-Broken.field-0-is in (
      c.in-Err-Broken.rule,
      c.read_elf.ensures.refused c.in-Err-Broken.rule (cc),
      c.in_ok-file_line-in-Err-Broken.ensures,
    )
