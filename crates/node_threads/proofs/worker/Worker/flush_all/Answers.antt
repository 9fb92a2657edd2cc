use Rattle.std.proofs.Common.{refl, arith, sym, ◌∙◌, length-set}
use Rattle.node_threads.proofs.Working.{works_none, works_trans, works_flush}
use Rattle.node_threads.proofs.worker.Worker.flush_all.Goals as goal

pub loop-k-init : goal.loop-k-init
loop-k-init g c = record {
  undelivered = c.requires.undelivered;
  lists = c.requires.rows.outboxes ∙ sym c.requires.rows.sends;
  same = refl;
  node = refl;
  works = works_none _ c.requires.undelivered;
}

pub loop-k-preserved : goal.loop-k-preserved
loop-k-preserved g c = record {
  undelivered = c.loop-k.invariant.undelivered;
  lists = simp length-set c.loop-k.invariant.lists;
  same = simp length-set c.loop-k.invariant.same;
  node = c.loop-k.invariant.node;
  works = works_trans _ _ _ c.loop-k.invariant.works c.loop-k.invariant.undelivered
      (works_flush _ _ c.loop-k.k c.index_mut.result.now c.flush.new.end
      c.index_mut-in-loop-k.result.now c.flush.new.out c.loop-k.invariant.undelivered refl refl
      c.loop-k.invariant.undelivered refl refl (omega arith) (omega arith) c.index_mut.ensures.value
      c.index_mut-in-loop-k.ensures.value c.flush.ensures.link c.flush.ensures.capacity
      c.in_ok-flush.ensures.wires);
}

pub returns-then-not-pace-clause-works : goal.returns-then-not-pace-clause-works
returns-then-not-pace-clause-works g c = works_none _ c.requires.undelivered
