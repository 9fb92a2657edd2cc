use Rattle.std.proofs.Common.{◌≡◌, false, map, sym, ap, ◌∙◌, arith}
use Rattle.std.specs.Prelude.{find}
use Rattle.std.proofs.lemmas.Bool.{cond-false}
use Rattle.std.proofs.lemmas.Bool.Decides.{nat_tests}
use Rattle.elf32_read.specs.Segments.{segment_of}
use Rattle.exec_map.specs.Contents.{is_private, segment_class, class_of_line, touches}
use Rattle.exec_map.specs.Index.{IsIndex}
use Rattle.exec_map.proofs.Looking.{touches_same}
use Rattle.exec_map.proofs.Program.class.Goals as goal

pub returns-in-Some : goal.returns-in-Some
returns-in-Some c =
    let h : IsIndex c.self.inside.elf.now (map segment_of c.self.inside.segments.items) c.self.inside.code.items = c.self.invariant.0 in
    let outside : is_private c.args.line ≡ false = grind (arith, nat_tests) in
    let is = c.in-Some.ensures ∙ ap (λ xs. find (touches c.args.line) (map segment_of xs)) c.deref.ensures.value ∙ touches_same c.self.inside.elf.now.segments (map segment_of c.self.inside.segments.items) c.args.line h.placed h.permutation h.searchable in
    c.class.ensures ∙ ap segment_class is ∙ sym (cond-false _ _ _ outside) ∙ ap (λ e. class_of_line e c.args.line) c.self.view_is

pub returns-in-None : goal.returns-in-None
returns-in-None c =
    let h : IsIndex c.self.inside.elf.now (map segment_of c.self.inside.segments.items) c.self.inside.code.items = c.self.invariant.0 in
    let outside : is_private c.args.line ≡ false = grind (arith, nat_tests) in
    let is = c.in-None.ensures ∙ ap (λ xs. find (touches c.args.line) (map segment_of xs)) c.deref.ensures.value ∙ touches_same c.self.inside.elf.now.segments (map segment_of c.self.inside.segments.items) c.args.line h.placed h.permutation h.searchable in
    ap segment_class is ∙ sym (cond-false _ _ _ outside) ∙ ap (λ e. class_of_line e c.args.line) c.self.view_is
