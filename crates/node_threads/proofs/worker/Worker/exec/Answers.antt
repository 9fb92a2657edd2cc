use Rattle.std.proofs.Common.{refl, sym, append-nil}
use Rattle.dsm_core.specs.run_order.Apart.{Executes}
use Rattle.node_threads.proofs.Working.{on_ok, works_turn}
use Rattle.node_threads.proofs.worker.Worker.exec.Goals as goal

pub returns-clause-works : goal.returns-clause-works
returns-clause-works c =
    let t = c.exec_into-turn in
    on_ok c.queue_sends.result
    (λ sent. works_turn c.args.self.now _ c.room.new.self Executes t.result.stamp
    t.new.sends.items c.requires.undelivered c.requires.rows c.requires.may c.room.ensures.work
    c.room.ensures.node t.ensures.work t.ensures.node t.ensures.sends t.ensures.stamp
    (λ j. sym (append-nil _)) refl refl sent c.queue_sends.ensures.len)
    c.queue_sends.ensures.wires
