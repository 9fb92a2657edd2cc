use Rattle.std.proofs.Common.{◌≡◌, ◌+◌, ◌/◌, length, subst, sym, arith}
use Rattle.micro_op.specs.Micro.{index_address}
use Rattle.one_memory.specs.Machine.{AreOps}
use Rattle.one_memory.proofs.CodeLemmas.{ops_push}
use Rattle.one_memory.proofs.code.CodeRegion.read.Goals as goal

pub loop-ops-preserved : goal.loop-ops-preserved
loop-ops-preserved c =
    let e = c.args.program.now in
    let first = c.args.address / 4 in
    let inv = c.loop-ops.invariant in
    let here : index_address 0 (first + length c.loop-ops.ops.items) ≡ c.loop-ops.end = omega (arith, inv.at, inv.low, c.requires.aligned) in
    record {
      ops = subst (AreOps e first) (sym c.in_ok-push.ensures.items) (ops_push e first c.loop-ops.ops.items c.micro_op.result c.loop-ops.end inv.ops here c.micro_op.ensures);
      at = omega (arith, inv.at, c.in_ok-push.ensures.len);
      low = omega (arith, c.in-Some.ensures.low, c.in-Some.ensures.some.at_least);
    }

pub returns-clause-stretch : goal.returns-clause-stretch
returns-clause-stretch c =
    let e = c.args.program.now in
    let first = c.args.address / 4 in
    let inv = c.loop-ops.invariant in
    let here : index_address 0 (first + length c.loop-ops.ops.items) ≡ c.loop-ops.end = omega (arith, inv.at, inv.low, c.requires.aligned) in
    record { serve = subst (AreOps e first) (sym c.in_ok-push.ensures.items) (ops_push e first c.loop-ops.ops.items c.micro_op.result c.loop-ops.end inv.ops here c.micro_op.ensures) }
