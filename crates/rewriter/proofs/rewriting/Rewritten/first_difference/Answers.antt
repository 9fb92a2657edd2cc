use Rattle.std.proofs.Common.{◌≡◌, ◌∙◌, [], ◌++◌, ◌∷◌, Some, map, length, ap, sym, refl, rules, codes, arith}
use Rattle.std.specs.Prelude.{slice_get}
use Rattle.std.proofs.lemmas.List.{length-map}
use Rattle.elf32_read.specs.Segments.{segment_of, section_of}
use Rattle.rewriter.specs.RewrittenFile.{plan_bytes, map_bytes, code_bytes, section_with, segment_with, without_execution, rewritten_elf}
use Rattle.rewriter.proofs.FileLemmas.{section_as, whole}
use Rattle.rewriter.proofs.SizeLemmas.{plan_few, map_few, code_few}
use Rattle.rewriter.proofs.rewriting.Rewritten.first_difference.Goals as goal

pub plan_section-wanted-requires : goal.plan_section-wanted-requires
plan_section-wanted-requires c =
    let few = plan_few c.deref.result.now c.args.self.now.plan c.plan.result.now
    (c.deref.ensures.value ∙ c.in_ok-plan.ensures.value) c.plan.ensures.value c.plan.ensures.few in
    record { short = omega (arith, few) }

pub map_section-wanted-requires : goal.map_section-wanted-requires
map_section-wanted-requires c =
    let few = map_few c.deref-2.result.now c.image.result.now c.args.self.now.plan c.plan-2.result.now
    (c.deref-2.ensures.value ∙ c.in_ok-map.ensures.value) c.plan-2.ensures.value c.plan-2.ensures.few in
    record { short = omega (arith, few) }

pub rewritten_segments-requires : goal.rewritten_segments-requires
rewritten_segments-requires c =
    let few = code_few c.deref-3.result.now c.args.self.now.image c.image-2.result.now
    (c.deref-3.ensures.value ∙ c.in_ok-code.ensures.value) c.image-2.ensures.value c.image-2.ensures.few in
    record { short = omega (arith, few) }

pub returns-then-are_segments : goal.returns-then-are_segments
returns-then-are_segments c =
    let e = c.args.elf.now in
    let image = c.args.self.now.image in
    let plan = c.args.self.now.plan in
    let sections = c.sections-sections.ensures.value in
    let first : slice_get e.sections 0 ≡ Some (section_with (codes ".shasta.plan") 0x80000001 (plan_bytes plan)) =
    ap (λ ss. slice_get ss 0) (sym sections)
    ∙ section_as _ (section_of c.plan_section-wanted.result) (codes ".shasta.plan") 0x80000001
    c.deref.result.now c.in_ok-plan.plan.items (plan_bytes plan)
    (c.has_section.ensures.value.0 (search rules)) c.plan_section-wanted.ensures.value c.deref.ensures.value (search rules) in
    let second : slice_get e.sections 1 ≡ Some (section_with (codes ".shasta.map") 0x80000002 (map_bytes image plan)) =
    ap (λ ss. slice_get ss 1) (sym sections)
    ∙ section_as _ (section_of c.map_section-wanted.result) (codes ".shasta.map") 0x80000002
    c.deref-2.result.now c.in_ok-map.map.items (map_bytes image plan)
    (c.has_section-2.ensures.value.0 (search rules)) c.map_section-wanted.ensures.value c.deref-2.ensures.value (search rules) in
    let two : length c.sections-sections.result.now ≡ 2 = search rules in
    let long : length e.sections ≡ 2 =
    ap length (sym sections) ∙ length-map c.sections-sections.result.now section_of ∙ two in
    let entry : c.entry.result ≡ c.new_address.result = search rules in
    let flags : c.flags.result ≡ c.flags-then-entry-new_address.result = search rules in
    let same = c.are_segments.ensures.value.0 (search rules) in
    let code : c.deref-3.result.now ≡ code_bytes image =
    c.deref-3.ensures.value ∙ search rules in
    let wanted = c.in_ok-segments.ensures.value
    ∙ ap (λ b. map without_execution c.args.original.now.segments ++ segment_with b ∷ []) code in
    record {
      value =
          whole e (rewritten_elf c.args.original.now image plan) _ _
          refl first second long
          (sym c.entry.ensures ∙ entry ∙ search rules)
          (sym c.flags.ensures.value ∙ flags ∙ c.flags-then-entry-new_address.ensures.value)
          (sym c.segments.ensures.value ∙ same ∙ ap (map segment_of) c.deref-then-flags.ensures.value ∙ wanted);
    }
