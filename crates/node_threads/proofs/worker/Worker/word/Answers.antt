use Rattle.std.proofs.Common.{rules, ◌≡◌, true, refl}
use Rattle.node_threads.proofs.Working.{works_pass}
use Rattle.node_threads.proofs.worker.Worker.word.Goals as goal

pub returns-then-exec_silent-clause-works : goal.returns-then-exec_silent-clause-works
returns-then-exec_silent-clause-works g c =
    let yes : c.exec_silent.result ≡ true = search rules in
    works_pass c.args.self.now _ c.requires.undelivered c.requires.may c.exec_silent.ensures.work
    (c.exec_silent.ensures.passed yes).0 refl refl refl
