use Rattle.node_threads.proofs.Working.{works_none, works_trans, rows_kept}
use Rattle.node_threads.proofs.worker.Worker.work.Goals as goal

pub loop-init : goal.loop-init
loop-init g c = record { works = works_none _ c.requires.undelivered }

pub round-requires-clause-rows : goal.round-requires-clause-rows
round-requires-clause-rows g c = rows_kept _ _ c.loop.invariant.works c.requires.rows

pub loop-preserved-then-not-branch : goal.loop-preserved-then-not-branch
loop-preserved-then-not-branch g c = record {
  works = works_trans _ c.loop.worker _ c.loop.invariant.works
      (c.is_done.ensures.undelivered c.if-is_done.false) c.in_ok-round.ensures.works;
}

pub loop-preserved : goal.loop-preserved
loop-preserved g c = record {
  works = works_trans _ c.loop.worker _ c.loop.invariant.works
      (c.is_done.ensures.undelivered c.if-is_done.false) c.in_ok-round.ensures.works;
}
