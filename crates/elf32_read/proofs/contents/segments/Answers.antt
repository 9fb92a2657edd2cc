use Rattle.std.proofs.Common.{◌≡◌, ◌∙◌, ◌++◌, ◌∷◌, [], map, ap, sym, subst, arith, true}
use Rattle.std.proofs.lemmas.List.{map-append}
use Rattle.elf32_read.specs.declared.headers.FileHeader.{FileHeader}
use Rattle.elf32_read.specs.Elf.{is_placed, are_placed}
use Rattle.elf32_read.specs.Segments.{segment_of}
use Rattle.elf32_read.proofs.ContentsLemmas.{segments_skip, segments_more, inside, placed, placed_more}
use Rattle.elf32_read.proofs.contents.segments.Goals as goal

pub segment-requires : goal.segment-requires
segment-requires c =
    let count = ap (λ (h : FileHeader). h.e_phnum) c.requires.tables.is in
    inside c.args.file.now c.loop-index.index c.program_header-h.result c.requires.readable (omega arith)
    c.program_header-h.ensures (sym c.if-not-is_load.ensures)

pub loop-index-preserved-then-not-is_load : goal.loop-index-preserved-then-not-is_load
loop-index-preserved-then-not-is_load c = record {
  value =
      c.loop-index.invariant.value
      ∙ segments_skip c.args.file.now c.loop-index.index c.program_header-h.result c.program_header-h.ensures
      (sym c.if-not-is_load.ensures);
  placed = c.loop-index.invariant.placed;
}

pub loop-index-preserved : goal.loop-index-preserved
loop-index-preserved c =
    let file = c.args.file.now in
    let index = c.loop-index.index in
    let h = c.program_header-h.result in
    let s = segment_of c.segment.result in
    let count = ap (λ (h : FileHeader). h.e_phnum) c.requires.tables.is in
    let load = sym c.if-not-is_load.ensures in
    let pushed : map segment_of c.push.new.self.items ≡ map segment_of c.loop-index.all.items ++ s ∷ [] =
    ap (map segment_of) c.in_ok-push.ensures.items ∙ map-append segment_of c.loop-index.all.items (c.segment.result ∷ []) in
    record {
      value =
          pushed ∙ ap (λ ss. ss ++ s ∷ []) c.loop-index.invariant.value
          ∙ segments_more file index h s c.program_header-h.ensures load c.segment.ensures;
      placed =
          subst (λ ss. are_placed ss ≡ true) (sym pushed)
          (placed_more (map segment_of c.loop-index.all.items) s c.loop-index.invariant.placed
          (ap is_placed c.segment.ensures
          ∙ placed file index h c.requires.readable (omega arith) c.program_header-h.ensures load));
    }
