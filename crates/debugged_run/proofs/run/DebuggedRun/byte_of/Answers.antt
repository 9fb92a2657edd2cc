use Rattle.std.proofs.Common.{ap, ◌∙◌}
use Rattle.one_memory.specs.Machine.{state_of}
use Rattle.one_memory.specs.Shown.{byte_shown}
use Rattle.rv32_step.specs.OneMemory.{Original, State}
use Rattle.time_machine.specs.Stand.{original_in}
use Rattle.debugged_run.proofs.run.DebuggedRun.byte_of.Goals as goal

pub returns : goal.returns
returns c =
    let m = c.machine.result.now in
    let s = c.self.inside.machine in
    let p = c.args.p in
    let a = c.args.address in
    rw (← c.self.view_is) (c.byte.ensures
    ∙ ap (λ (o : Original). byte_shown o (state_of m) p a) c.machine.ensures.original
    ∙ ap (λ (t : State). byte_shown (original_in s.run) t p a) c.machine.ensures.state)
