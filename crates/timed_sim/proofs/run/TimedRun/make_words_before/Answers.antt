-- An earlier time is free too.
use Rattle.std.proofs.Common.{arith}
use Rattle.dsm_core.specs.CoreParts.{work_of, core_of}
use Rattle.timed_sim.specs.Stored.{times_in}
use Rattle.timed_sim.proofs.Stretching.{free_earlier}
use Rattle.timed_sim.proofs.run.TimedRun.make_words_before.Goals as goal

pub make_words_until-requires-clause-free : goal.make_words_until-requires-clause-free
make_words_until-requires-clause-free c = λ i low.
    let r = c.args.self.now in
    let m = c.min.ensures in
    free_earlier (work_of r.core) (times_in r) (core_of r.core) c.min.result c.args.end i
    (omega (arith, m)) (c.requires.free i low)
