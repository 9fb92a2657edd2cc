-- One node more is free until the earlier time.
use Rattle.std.proofs.Common.{sym, subst, inl, inr, arith}
use Rattle.std.proofs.lemmas.Bool.Decides.{eqb_tells}
use Rattle.dsm_core.specs.CoreParts.{work_of, core_of}
use Rattle.timed_sim.specs.Stored.{times_of}
use Rattle.timed_sim.specs.Stretches.{IsFree}
use Rattle.timed_sim.proofs.Stretching.{free_earlier, below_if_other}
use Rattle.timed_sim.proofs.clocks.Clocks.free_until.Goals as goal

pub loop-node-preserved : goal.loop-node-preserved
loop-node-preserved c =
    let p = c.args.core.now in
    let l = c.loop-node in
    let work = work_of p in
    let times = times_of p.layout.nodes c.args.self.now in
    let core = core_of p in
    let m = c.min-end.ensures in
    record {
      free = λ i low. (elim (eqb_tells i l.node) [
        | inl e ↦ free_earlier work times core c.min-end.result c.node_free_until.result i
            (omega (arith, m))
            (subst (IsFree work times core c.node_free_until.result) (sym e.1) c.node_free_until.ensures)
        | inr e ↦ free_earlier work times core c.min-end.result l.end i (omega (arith, m))
            (l.invariant.free i (below_if_other i l.node low e.1))
      ]);
    }
