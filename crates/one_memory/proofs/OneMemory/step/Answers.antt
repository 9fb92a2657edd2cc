use Rattle.std.proofs.Common.{◌<◌, length, ap, ◌∙◌, refl, arith}
use Rattle.std.specs.Prelude.{is_some}
use Rattle.std.proofs.lemmas.Option.{slice_get_read}
use Rattle.one_memory.specs.Machine.{Parts}
use Rattle.one_memory.proofs.TurnLemmas.{stepped, not_ended}
use Rattle.one_memory.proofs.OneMemory.step.Goals as goal

pub returns-clause-ok : goal.returns-clause-ok
returns-clause-ok c =
    let i = c.self.inside in
    let p = c.args.p in
    let h : Parts = record { memory = i.memory; count = i.nodes; processors = i.processors.items } in
    let few : p < i.nodes = rw (← c.self.view_is) at c.requires in
    let within : p < length i.processors.items = omega (arith, few, c.self.invariant.0) in
    let get = slice_get_read i.processors.items (length i.processors.items) p _ refl within c.index_mut-processor.ensures.value in
    rw (← c.self.view_is) (stepped h c.step.new.memory p _ c.step.new.self within get (record { program = c.step.ensures.program; layout = c.step.ensures.layout }) c.in_ok-step.ensures.ok)

pub returns-clause-ended : goal.returns-clause-ended
returns-clause-ended c =
    let i = c.self.inside in
    let p = c.args.p in
    let h : Parts = record { memory = i.memory; count = i.nodes; processors = i.processors.items } in
    let few : p < i.nodes = rw (← c.self.view_is) at c.requires in
    let within : p < length i.processors.items = omega (arith, few, c.self.invariant.0) in
    let get = slice_get_read i.processors.items (length i.processors.items) p _ refl within c.index_mut-processor.ensures.value in
    rw (← c.self.view_is) (λ e. absurd (cc), λ with_exit. absurd (not_ended h p _ _ get (c.is_some.ensures ∙ ap is_some c.exit.ensures) c.if-is_some.false with_exit))
