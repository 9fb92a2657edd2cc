use Rattle.node_threads.proofs.Working.{works_trans, rows_kept}
use Rattle.node_threads.proofs.worker.Worker.round.Goals as goal

pub act-requires-clause-rows : goal.act-requires-clause-rows
act-requires-clause-rows g c = rows_kept c.args.self.now _ c.in_ok-moved.ensures.works c.requires.rows

pub returns-then-moved : goal.returns-then-moved
returns-then-moved g c = record {
  works = works_trans _ _ _ c.in_ok-moved.ensures.works c.in_ok-moved.ensures.undelivered
      c.in_ok-did.ensures.works;
}

pub returns-else-moved : goal.returns-else-moved
returns-else-moved g c = record {
  works = works_trans _ _ _ c.in_ok-moved.ensures.works c.in_ok-moved.ensures.undelivered
      c.in_ok-did.ensures.works;
}
