use Rattle.std.proofs.Common.{◌<◌, length, refl, arith}
use Rattle.std.proofs.lemmas.Option.{slice_get_read}
use Rattle.std.proofs.lemmas.Result.{IfOk-weaker}
use Rattle.one_memory.specs.Machine.{Parts}
use Rattle.one_memory.proofs.TurnLemmas.{turned, ended_one}
use Rattle.one_memory.proofs.OneMemory.run_alone.Goals as goal

pub returns-clause-turns : goal.returns-clause-turns
returns-clause-turns c =
    let i = c.self.inside in
    let p = c.args.p in
    let h : Parts = record { memory = i.memory; count = i.nodes; processors = i.processors.items } in
    let few : p < i.nodes = rw (← c.self.view_is) at c.requires.node in
    let within : p < length i.processors.items = omega (arith, few, c.self.invariant.0) in
    let get = slice_get_read i.processors.items (length i.processors.items) p _ refl within c.index_mut.ensures.value in
    rw (← c.self.view_is) (IfOk-weaker c.run.result _ _ (λ n turns. turned h c.run.new.memory p n _ c.run.new.self within get (record { program = c.run.ensures.program; layout = c.run.ensures.layout }) turns) c.run.ensures.turns)

pub returns-clause-all : goal.returns-clause-all
returns-clause-all c =
    let i = c.self.inside in
    let p = c.args.p in
    let h : Parts = record { memory = i.memory; count = i.nodes; processors = i.processors.items } in
    let few : p < i.nodes = rw (← c.self.view_is) at c.requires.node in
    let within : p < length i.processors.items = omega (arith, few, c.self.invariant.0) in
    IfOk-weaker c.run.result _ _ (λ n all lt. ended_one h c.run.new.memory p c.run.new.self within (all lt)) c.run.ensures.all
