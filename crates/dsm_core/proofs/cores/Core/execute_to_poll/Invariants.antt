use Rattle.std.proofs.Common.{◌≡◌, ◌+◌}
use Rattle.dsm_core.specs.CoreParts.{work_of, core_of}
use Rattle.dsm_core.specs.CoreSteps.{GoesOnFor}
use Rattle.dsm_core.proofs.cores.Core.execute_to_poll.Given as goal

abbrev pub invariant-loop-word : goal.invariant-loop-word
invariant-loop-word l = record {
  gone : GoesOnFor (work_of l.fn.self) (l._word + 1) (core_of l.fn.self) (core_of l.self);
  work : work_of l.self ≡ work_of l.fn.self;
}
