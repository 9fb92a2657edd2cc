use Rattle.std.proofs.Common.{refl}
use Rattle.node_threads.proofs.Working.{on_ok, works_words, works_before}
use Rattle.node_threads.proofs.worker.Worker.run_burst.Goals as goal

pub returns-then-words-most : goal.returns-then-words-most
returns-then-words-most c =
    let w = c.run_silent-words in
    record {
      works = on_ok c.exec.result
          (λ x. works_before _ _ _ x c.requires.undelivered (works_words c.args.self.now _ w.result
          c.requires.undelivered w.ensures.work w.ensures.goes_on refl refl refl))
          c.exec.ensures.works;
    }

pub returns : goal.returns
returns c =
    let w = c.run_silent-words in
    record {
      works = works_words c.args.self.now _ w.result c.requires.undelivered w.ensures.work
          w.ensures.goes_on refl refl refl;
    }
