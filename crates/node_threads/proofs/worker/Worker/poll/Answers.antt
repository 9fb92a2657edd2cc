use Rattle.std.proofs.Common.{ap, ◌∙◌, Ok}
use Rattle.node_threads.proofs.Working.{on_ok, works_before}
use Rattle.node_threads.proofs.worker.Worker.poll.Goals as goal

pub returns : goal.returns
returns g c =
    let e = c.in_ok-poll_links.was ∙ ap (λ b. Ok b) c.if-branch.false in
    record {
      works = on_ok c.run.result
          (λ w. works_before _ _ _ w (c.poll_links.ensures.none e).0
          c.in_ok-poll_links.ensures.works) c.run.ensures.works;
    }
