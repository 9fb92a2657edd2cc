use Rattle.std.proofs.Common.{◌≡◌, ◌∙◌, ◌++◌, [], ◌∷◌, map, ap, true}
use Rattle.elf32_read.specs.Elf.{is_in_limits}
use Rattle.elf32_read.specs.Segments.{elf_with, section_of}
use Rattle.rewriter.specs.RewrittenFile.{elf_of_parts}
use Rattle.rewriter.proofs.SizeLemmas.{in_limits}
use Rattle.rewriter.proofs.file.elf_of_parts.Goals as goal

pub unreachable-requires : goal.unreachable-requires
unreachable-requires c =
    let original = c.args.original.now in
    let items = c.in_ok-push-2.ensures.items
    ∙ ap (λ xs. xs ++ c.map_section.result ∷ []) (c.in_ok-push.ensures.items
    ∙ ap (λ xs. xs ++ c.plan_section.result ∷ []) c.new-sections.ensures.items) in
    let sections = ap (map section_of) items
    ∙ (λ i. c.plan_section.ensures.value i ∷ c.map_section.ensures.value i ∷ []) in
    let same : elf_with c.args.entry c.flags.result c.in_ok-segments.segments.items c.push-2.new.self.items
    ≡ elf_of_parts original c.args.entry c.args.plan.now c.args.map.now c.args.code.now =
    λ i. record {
      entry = c.args.entry;
      flags = c.flags.ensures.value i;
      segments = c.in_ok-segments.ensures.value i;
      sections = sections i;
    } in
    let within : is_in_limits (elf_of_parts original c.args.entry c.args.plan.now c.args.map.now c.args.code.now) ≡ true =
    in_limits original c.args.entry c.args.plan.now c.args.map.now c.args.code.now c.requires.accepted
    c.flags.ensures.known c.in_ok-segments.ensures.placed c.requires.plan c.requires.map c.requires.code in
    let bad = c.in-None.ensures.limits ∙ ap is_in_limits same ∙ within in
    absurd (cc bad)
