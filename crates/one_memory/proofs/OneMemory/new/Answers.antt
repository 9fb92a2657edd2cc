use Rattle.std.proofs.Common.{◌≡◌, ◌+◌, List, refl, sym, ◌∙◌, subst, arith}
use Rattle.block_layout.specs.Layout.{Shape}
use Rattle.elf32_read.specs.Elf.{Elf}
use Rattle.one_memory.specs.declared.processor.Processor.{Processor as ProcessorParts}
use Rattle.one_memory.specs.Machine.{original_on, IsCodeOf}
use Rattle.one_memory.proofs.TurnLemmas.{AreFirst, none_first, one_first, original_with, opened}
use Rattle.one_memory.proofs.OneMemory.new.Goals as goal

pub loop-p-init : goal.loop-p-init
loop-p-init c =
    let original = original_with c.args.nodes c.args.layout.now c.args.program.now in
    subst (λ (ks : List ProcessorParts). AreFirst original ks 0) (sym c.new-processors.ensures.items) (none_first original)

pub loop-p-preserved : goal.loop-p-preserved
loop-p-preserved c =
    let original = original_with c.args.nodes c.args.layout.now c.args.program.now in
    subst (λ (ks : List ProcessorParts). AreFirst original ks (c.loop-p.p + 1)) (sym c.in_ok-push.ensures.items)
    (one_first original _ c.loop-p.p _ c.loop-p.invariant (c.in_ok-new.ensures original (sym c.entry-entry.ensures.value) refl))

pub invariant_of-result : goal.invariant_of-result
invariant_of-result c =
    let range = c.as_u8-p-end.ensures.range in
    let all : c.loop-p.p ≡ c.args.nodes = omega (arith, c.as_u8-p-end.ensures.value, c.loop-p-test.false, c.loop-p.auto.p-end) in
    let code = subst (λ (e : Elf). IsCodeOf e c.in_ok-code.code) (sym c.in_ok-memory.ensures.program) c.in_ok-code.ensures in
    (c.loop-p.invariant.len ∙ all, omega (arith, range.1, c.as_u8-p-end.ensures.value), code)

pub returns-clause-opening : goal.returns-clause-opening
returns-clause-opening c =
    let m = c.in_ok-memory.memory in
    let is = c.in_ok-memory.ensures in
    let all : c.loop-p.p ≡ c.args.nodes = omega (arith, c.as_u8-p-end.ensures.value, c.loop-p-test.false, c.loop-p.auto.p-end) in
    let shared = rw (← is.program) at is.shared in
    let first : AreFirst (original_on m c.args.nodes) c.loop-p.processors.items c.args.nodes =
    subst (λ (e : Elf). AreFirst (original_with c.args.nodes m.layout e) c.loop-p.processors.items c.args.nodes) (sym is.program)
    (subst (λ (s : Shape). AreFirst (original_with c.args.nodes s c.args.program.now) c.loop-p.processors.items c.args.nodes) (sym is.layout)
    (subst (AreFirst (original_with c.args.nodes c.args.layout.now c.args.program.now) c.loop-p.processors.items) all c.loop-p.invariant)) in
    opened m c.args.nodes c.loop-p.processors.items shared is.output is.reserved first
