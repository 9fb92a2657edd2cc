use Rattle.std.proofs.Common.{refl, ap, ◌∙◌, Ok}
use Rattle.node_threads.proofs.Working.{works_none, works_trans}
use Rattle.node_threads.proofs.worker.Worker.poll_links.Goals as goal

pub loop-from-init : goal.loop-from-init
loop-from-init g c =
    record { undelivered = c.requires.undelivered; node = refl; works = works_none _ c.requires.undelivered }

pub returns-then-branch-clause-works : goal.returns-then-branch-clause-works
returns-then-branch-clause-works g c = works_trans _ _ _ c.loop-from.invariant.works
    c.loop-from.invariant.undelivered c.in_ok-poll_link.ensures.works

pub loop-from-preserved : goal.loop-from-preserved
loop-from-preserved g c =
    let none = c.poll_link.ensures.none (c.in_ok-poll_link.was ∙ ap (λ b. Ok b) c.if-branch.false) in
    record {
      undelivered = none.0;
      node = none.1 ∙ c.loop-from.invariant.node;
      works = works_trans _ _ _ c.loop-from.invariant.works c.loop-from.invariant.undelivered
          c.in_ok-poll_link.ensures.works;
    }

pub returns-then-not-has_mail-clause-works : goal.returns-then-not-has_mail-clause-works
returns-then-not-has_mail-clause-works g c = works_none _ c.requires.undelivered
