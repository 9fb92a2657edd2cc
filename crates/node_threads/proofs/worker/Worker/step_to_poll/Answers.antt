use Rattle.std.proofs.Common.{rules, ◌≡◌, true}
use Rattle.node_threads.proofs.Working.{works_none, works_trans, rows_kept}
use Rattle.node_threads.proofs.worker.Worker.step_to_poll.Goals as goal

pub loop-init : goal.loop-init
loop-init g c = record {
  rows = c.requires.rows;
  undelivered = c.requires.undelivered;
  stamp = c.requires.stamp;
  may = c.requires.may;
  works = works_none _ c.requires.undelivered;
}

pub returns-then-not-may_go_on : goal.returns-then-not-may_go_on
returns-then-not-may_go_on g c = record {
  works = works_trans _ _ _ c.loop.invariant.works c.loop.invariant.undelivered
      c.in_ok-word.ensures.works;
}

pub loop-preserved : goal.loop-preserved
loop-preserved g c =
    let i = c.loop.invariant in
    let can : c.may_go_on.result ≡ true = search rules in
    record {
      rows = rows_kept c.loop.self _ c.in_ok-word.ensures.works i.rows;
      undelivered = c.word.ensures.undelivered;
      stamp = c.may_go_on.ensures.stamp can;
      may = c.may_go_on.ensures.may can;
      works = works_trans _ _ _ i.works i.undelivered c.in_ok-word.ensures.works;
    }
