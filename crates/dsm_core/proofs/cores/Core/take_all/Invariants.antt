use Rattle.std.proofs.Common.{◌≡◌}
use Rattle.dsm_core.specs.CoreParts.{work_of, core_of}
use Rattle.dsm_core.specs.CoreSteps.{HasGone}
use Rattle.dsm_core.proofs.cores.Core.take_all.Given as goal

abbrev pub invariant-loop-taken : goal.invariant-loop-taken
invariant-loop-taken l = record {
  gone : HasGone (work_of l.initial.self) l.taken (core_of l.initial.self) (core_of l.self);
  work : work_of l.self ≡ work_of l.initial.self;
}
