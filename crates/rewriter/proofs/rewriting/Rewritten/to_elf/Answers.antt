use Rattle.std.proofs.Common.{◌∙◌}
use Rattle.rewriter.proofs.SizeLemmas.{plan_few, map_few, code_few}
use Rattle.rewriter.proofs.rewriting.Rewritten.to_elf.Goals as goal

pub elf_of_parts-requires-clause-plan : goal.elf_of_parts-requires-clause-plan
elf_of_parts-requires-clause-plan c =
    plan_few c.deref.result.now c.args.self.now.plan c.plan.result.now
    (c.deref.ensures.value ∙ c.in_ok-plan.ensures.value) c.plan.ensures.value c.plan.ensures.few

pub elf_of_parts-requires-clause-map : goal.elf_of_parts-requires-clause-map
elf_of_parts-requires-clause-map c =
    map_few c.deref-2.result.now c.image.result.now c.args.self.now.plan c.plan-2.result.now
    (c.deref-2.ensures.value ∙ c.in_ok-map.ensures.value) c.plan-2.ensures.value c.plan-2.ensures.few

pub elf_of_parts-requires-clause-code : goal.elf_of_parts-requires-clause-code
elf_of_parts-requires-clause-code c =
    code_few c.deref-3.result.now c.args.self.now.image c.image-2.result.now
    (c.deref-3.ensures.value ∙ c.in_ok-code.ensures.value) c.image-2.ensures.value c.image-2.ensures.few
