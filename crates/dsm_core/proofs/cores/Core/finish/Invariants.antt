use Rattle.std.proofs.Common.{◌≡◌}
use Rattle.dsm_core.specs.CoreParts.{work_of, core_of}
use Rattle.dsm_core.specs.CoreSteps.{GoesOnFor}
use Rattle.dsm_core.proofs.cores.Core.finish.Given as goal

abbrev pub invariant-loop-round : goal.invariant-loop-round
invariant-loop-round l = record {
  gone : GoesOnFor (work_of l.initial.self) l._round (core_of l.initial.self) (core_of l.self);
  work : work_of l.self ≡ work_of l.initial.self;
}
