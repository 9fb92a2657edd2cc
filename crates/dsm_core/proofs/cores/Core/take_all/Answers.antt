-- One message more, and few can follow.
use Rattle.std.proofs.Common.{◌∙◌, arith}
use Rattle.run_order.specs.node_model.Core.{Take}
use Rattle.dsm_core.specs.CoreParts.{work_of, core_of}
use Rattle.dsm_core.proofs.CoreRuns.{for_one}
use Rattle.dsm_core.proofs.Rounds.{gone_for, gone_also, gone_there}
use Rattle.dsm_core.proofs.cores.Core.take_all.Goals as goal

pub loop-taken-preserved : goal.loop-taken-preserved
loop-taken-preserved c =
    let p = c.args.self.now in
    let q = c.loop-taken.self in
    let r = c.step.new.self in
    let w = c.loop-taken.invariant.work in
    let one = gone_for (work_of q) 1 (core_of q) (core_of r) (omega arith)
    (for_one (work_of q) (core_of q) (core_of r) (Take c.args.node c.in-Some.from)
    c.in-Some.ensures c.in_ok-step.ensures.event) in
    record {
      gone = gone_also (work_of p) c.loop-taken.taken 1 (core_of p) (core_of q) (core_of r)
          c.loop-taken.invariant.gone
          (gone_there (work_of q) (work_of p) 1 (core_of q) (core_of r) w one);
      work = c.step.ensures.work ∙ w;
    }

pub unreachable-requires : goal.unreachable-requires
unreachable-requires c =
    let last = c.bounds.ensures.runs c.loop-taken.taken (core_of c.loop-taken.self)
    c.loop-taken.invariant.gone.goes in
    let all = c.loop-taken-test.false in
    absurd (omega (arith, last, all))
