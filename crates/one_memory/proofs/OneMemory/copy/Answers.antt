use Rattle.std.proofs.Common.{◌≡◌, ◌<◌, ◌+◌, List, length, refl, sym, ◌∙◌, subst, arith}
use Rattle.std.proofs.lemmas.Option.{slice_get_read}
use Rattle.elf32_read.specs.Elf.{Elf}
use Rattle.exec_map.specs.Contents.{first_byte}
use Rattle.one_memory.specs.declared.processor.Processor.{Processor as ProcessorParts}
use Rattle.one_memory.specs.Machine.{IsCodeOf, Parts}
use Rattle.one_memory.proofs.CopyLemmas.{AreCopies, no_copies, one_copy, same_state}
use Rattle.one_memory.proofs.TurnLemmas.{same_original}
use Rattle.one_memory.proofs.OneMemory.copy.Goals as goal

pub loop-p-init : goal.loop-p-init
loop-p-init c =
    subst (λ (ks : List ProcessorParts). AreCopies c.self.inside.processors.items ks 0) (sym c.new-processors.ensures.items) (no_copies c.self.inside.processors.items)

pub loop-p-preserved : goal.loop-p-preserved
loop-p-preserved c =
    let old = c.self.inside.processors.items in
    let p = c.loop-p.p in
    let within : p < length old = omega (arith, c.self.invariant.0, c.as_u8-p-end.ensures.value, c.loop-p-test.true) in
    let get = slice_get_read old (length old) p _ refl within c.index.ensures in
    subst (λ (ks : List ProcessorParts). AreCopies old ks (p + 1)) (sym c.in_ok-push.ensures.items)
    (one_copy old c.loop-p.processors.items p _ _ c.loop-p.invariant get c.in_ok-copy.ensures)

pub invariant_of-result : goal.invariant_of-result
invariant_of-result c =
    let all : c.loop-p.p ≡ c.self.inside.nodes = omega (arith, c.as_u8-p-end.ensures.value, c.loop-p-test.false, c.loop-p.auto.p-end) in
    let code = subst (λ (e : Elf). IsCodeOf e c.in_ok-code.code) (sym c.in_ok-memory.ensures.program)
    (c.in_ok-code.ensures c.self.inside.memory.program c.self.invariant.2) in
    (c.loop-p.invariant.len ∙ all, c.self.invariant.1, code)

pub returns-clause-original : goal.returns-clause-original
returns-clause-original c =
    let is = c.in_ok-memory.ensures in
    rw (← c.self.view_is) (same_original c.self.inside.memory c.in_ok-memory.memory c.self.inside.nodes (record { program = is.program; layout = is.layout }))

pub returns-clause-state : goal.returns-clause-state
returns-clause-state c =
    let i = c.self.inside in
    let is = c.in_ok-memory.ensures in
    let all : c.loop-p.p ≡ length i.processors.items = omega (arith, c.self.invariant.0, c.as_u8-p-end.ensures.value, c.loop-p-test.false, c.loop-p.auto.p-end) in
    let h : Parts = record { memory = i.memory; count = i.nodes; processors = i.processors.items } in
    let new : Parts = record { memory = c.in_ok-memory.memory; count = i.nodes; processors = c.loop-p.processors.items } in
    rw (← c.self.view_is)
    (same_state h new (record { program = is.program; layout = is.layout }) refl (is.shared (first_byte i.memory.program)) is.reserved is.output
    (subst (AreCopies i.processors.items c.loop-p.processors.items) all c.loop-p.invariant))
