use Rattle.std.proofs.Common.{◌≡◌, ◌∙◌, ◌+◌, ◌-◌, ◌++◌, ◌∷◌, [], map, ap, sym, arith}
use Rattle.std.proofs.lemmas.List.{map-append}
use Rattle.elf32_read.specs.declared.headers.FileHeader.{FileHeader}
use Rattle.elf32_read.specs.Fields.{file_header}
use Rattle.elf32_read.specs.Reading.{section_in}
use Rattle.elf32_read.specs.Segments.{section_of}
use Rattle.elf32_read.proofs.ContentsLemmas.{sections_to, sections_skip, sections_more}
use Rattle.elf32_read.proofs.contents.sections.Goals as goal

pub loop-index-preserved-then-index-header : goal.loop-index-preserved-then-index-header
loop-index-preserved-then-index-header c =
    let file = c.args.file.now in
    let index = c.loop-index.index in
    let names = ap (λ (h : FileHeader). h.e_shstrndx) c.requires.is in
    let next : index - 1 + 1 ≡ index + 1 - 1 = omega arith in
    record {
      value =
          c.loop-index.invariant.value
          ∙ sections_skip file (index - 1) index (omega arith) (c.if-index-header.true ∙ names)
          ∙ ap (sections_to file) next;
      end = omega arith;
    }

pub loop-index-preserved : goal.loop-index-preserved
loop-index-preserved c =
    let file = c.args.file.now in
    let index = c.loop-index.index in
    let s = section_of c.section.result in
    let names = ap (λ (h : FileHeader). h.e_shstrndx) c.requires.is in
    let next : index - 1 + 1 ≡ index + 1 - 1 = omega arith in
    let pushed : map section_of c.push.new.self.items ≡ map section_of c.loop-index.all.items ++ s ∷ [] =
    ap (map section_of) c.in_ok-push.ensures.items ∙ map-append section_of c.loop-index.all.items (c.section.result ∷ []) in
    record {
      value =
          pushed ∙ ap (λ ss. ss ++ s ∷ []) c.loop-index.invariant.value
          ∙ sections_more file (index - 1) index s (omega arith) (λ e. c.if-index-header.false (e ∙ sym names))
          (c.section.ensures ∙ ap (section_in file) c.section_header-h.ensures)
          ∙ ap (sections_to file) next;
      end = omega arith;
    }

pub returns : goal.returns
returns c =
    let count = ap (λ (h : FileHeader). h.e_shnum) c.requires.is in
    let last : c.loop-index.index - 1 ≡ (file_header c.args.file.now).e_shnum - 1 = omega arith in
    c.loop-index.invariant.value ∙ ap (sections_to c.args.file.now) last
