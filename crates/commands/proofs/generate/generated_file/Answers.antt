use Rattle.std.proofs.Common.{◌∙◌, ap, refl}
use Rattle.std.proofs.lemmas.Bool.{and_from}
use Rattle.elf32_read.specs.Elf.{Elf}
use Rattle.elf32_write.specs.Writable.{is_plain}
use Rattle.std.specs.List.{list_all}
use Rattle.commands.proofs.generate.generated_file.Goals as goal

-- it is in the limits, and has no sections
pub write_elf-requires-clause-writable : goal.write_elf-requires-clause-writable
write_elf-requires-clause-writable c =
    let plain = ap (λ (e : Elf). list_all is_plain e.sections) c.in_ok-elf.ensures.value in
    and_from _ _ c.in_ok-elf.ensures.limits (plain ∙ refl)
