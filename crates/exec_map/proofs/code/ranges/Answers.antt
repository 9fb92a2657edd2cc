use Rattle.std.proofs.Common.{◌&&◌, map, sym, ap, ◌∙◌, subst}
use Rattle.std.specs.Prelude.{All}
use Rattle.std.specs.List.{list_any}
use Rattle.std.proofs.lemmas.Bool.{eqb-true, eqb-false}
use Rattle.elf32_read.specs.Segments.{segment_of, section_of}
use Rattle.exec_map.specs.Contents.{section_has}
use Rattle.exec_map.specs.Index.{AreNumberRanges, AreCode, IsOfWords, have, words_of_segment}
use Rattle.exec_map.proofs.Filtering.{filter_map-map}
use Rattle.exec_map.proofs.Words.{code_of_segments, code_of_sections, segments_stretches, sections_words, none_left, some_left}
use Rattle.exec_map.proofs.code.ranges.Goals as goal

pub returns-then-is_empty : goal.returns-then-is_empty
returns-then-is_empty c =
    let xs = map segment_of c.args.segments.now in
    let empty = none_left c.sections.result.now (eqb-true _ _ (sym c.is_empty.ensures ∙ c.if-is_empty.true)) in
    subst (AreCode c.args.e.now) (sym (c.in_ok-held.ensures ∙ filter_map-map words_of_segment segment_of c.args.segments.now))
    (code_of_segments c.args.e.now xs (sym c.sections.ensures.value ∙ ap (map section_of) empty) c.requires.permutation c.requires.searchable c.requires.placed c.requires.low)

pub common-requires-clause-right : goal.common-requires-clause-right
common-requires-clause-right c =
    subst AreNumberRanges (sym (c.deref-2.ensures.value ∙ c.in_ok-held.ensures ∙ filter_map-map words_of_segment segment_of c.args.segments.now))
    (segments_stretches (map segment_of c.args.segments.now) c.requires.searchable)

pub returns : goal.returns
returns c =
    let e = c.args.e.now in
    let xs = map segment_of c.args.segments.now in
    let held = c.deref-2.ensures.value ∙ c.in_ok-held.ensures ∙ filter_map-map words_of_segment segment_of c.args.segments.now in
    let some = some_left c.sections.result.now e.sections (eqb-false _ _ (sym c.is_empty.ensures ∙ c.if-is_empty.false)) c.sections.ensures.value in
    code_of_sections e xs c.in_ok-named.named.items c.in_ok-common.common.items some c.requires.permutation c.requires.placed c.requires.low
    c.in_ok-named.ensures.whole
    (λ a aligned low. c.in_ok-named.ensures.words a ∙ sections_words c.sections-2.result.now a aligned low ∙ ap (list_any (section_has a)) c.sections-2.ensures.value)
    c.in_ok-common.ensures.stretches
    (λ named whole. c.in_ok-common.ensures.whole (rw c.deref.ensures.value named) (subst (All IsOfWords) (sym held) whole))
    (λ a. c.in_ok-common.ensures.numbers a ∙ ap (λ rs. have rs a && have c.deref-2.result.now a) c.deref.ensures.value ∙ ap (λ rs. have c.in_ok-named.named.items a && have rs a) held)
