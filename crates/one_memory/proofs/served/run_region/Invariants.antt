use Rattle.one_memory.specs.Going.{HasGone}
use Rattle.one_memory.proofs.served.run_region.Given as goal

abbrev pub invariant-loop-going : goal.invariant-loop-going
invariant-loop-going l = record {
  gone : HasGone l.p (record {
    ops = l.ops;
    memory = l.initial.memory;
    body = l.initial.body;
    going = l.fn.from;
  }) l.memory l.body l.going;
}

abbrev pub decreases-loop-going : goal.decreases-loop-going
decreases-loop-going l = l.going.left
