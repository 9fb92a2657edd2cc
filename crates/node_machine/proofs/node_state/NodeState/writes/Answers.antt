-- By where the address lies.
use Rattle.std.proofs.Common.{sym, ◌∙◌}
use Rattle.node_machine.specs.NodeState.{node_of, work_of}
use Rattle.node_machine.proofs.TouchLemmas.{stores_at}
use Rattle.node_machine.proofs.node_state.NodeState.writes.Goals as goal

pub returns-then-is_aligned : goal.returns-then-is_aligned
returns-then-is_aligned c = record {
  access = λ place at value.
      let work = work_of c.args.self.now in let n = node_of c.args.self.now in
      let is = c.address_by-address.ensures in (
        value,
        stores_at work.program place at n.lane n.local c.args.width c.address_by-address.result value _ is
            (sym c.is_aligned.ensures.value ∙ c.if-is_aligned.true) c.if-address-lt-MEMORY_END.true,
      );
}
