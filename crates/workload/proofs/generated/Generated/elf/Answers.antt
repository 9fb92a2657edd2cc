use Rattle.std.proofs.Common.{◌≡◌, [], ◌∷◌, map, ap, ◌∙◌, arith}
use Rattle.elf32_read.specs.Elf.{is_in_limits}
use Rattle.elf32_read.specs.Segments.{section_of, elf_with}
use Rattle.workload.proofs.CodeBytes.{few_bytes, in_limits, two_segments}
use Rattle.workload.proofs.generated.Generated.elf.Goals as goal

pub overflow_cast-len : goal.overflow_cast-len
overflow_cast-len c =
    let few = few_bytes c.self.inside.code.items c.self.inside.number c.self.invariant in
    let size = c.self.inside.code.ok.0 in
    let len = c.len.ensures in
    omega (arith, few, size, len)

pub unreachable-requires : goal.unreachable-requires
unreachable-requires c =
    let few = few_bytes c.self.inside.code.items c.self.inside.number c.self.invariant in
    let size = c.self.inside.code.ok.0 in
    let len = c.len.ensures in
    let within = in_limits c.self.inside.code.items c.len.result (omega (arith, size, len)) few in
    let segments = two_segments _ _ _ _ _ c.new-segments.ensures.items c.in_ok-push.ensures.items
    c.in_ok-push-2.ensures.items in
    let sections = ap (map section_of) c.new.ensures.items in
    let parts =
    segments
    ∙ (λ i. record { flags = 5; vaddr = 0x10000; memsz = c.len.result; bytes = c.deref.ensures.value i }
    ∷ record { flags = 6; vaddr = 0x200000; memsz = 0x4080; bytes = [] } ∷ []) in
    let same : elf_with 0x10000 0 c.push-2.new.self.items c.new.result.items ≡ record {
      entry = 0x10000;
      flags = 0;
      segments =
          record { flags = 5; vaddr = 0x10000; memsz = c.len.result; bytes = c.self.inside.code.items }
          ∷ record { flags = 6; vaddr = 0x200000; memsz = 0x4080; bytes = [] } ∷ [];
      sections = [];
    } = λ i. record { entry = 0x10000; flags = 0; segments = parts i; sections = sections i } in
    let bad = c.in-None.ensures.limits ∙ ap is_in_limits same ∙ within in
    absurd (cc bad)
