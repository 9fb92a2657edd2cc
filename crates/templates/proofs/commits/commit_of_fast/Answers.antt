use Rattle.templates.specs.Code.{code_of}
use Rattle.templates.specs.Runs.{code_from}
use Rattle.templates.proofs.CommitLemmas.{fast_always, fast_before, fast_behind}
use Rattle.templates.proofs.commits.commit_of_fast.Goals as goal
use Rattle.templates.proofs.commits.commit_of_fast.Goals.{else-first-word-via-then-first-word+else-word-first, else-first-word-via-else-first-word}

pub returns-then-word-first : goal.returns-then-word-first
returns-then-word-first c =
    let e = c.args.entry.now in
    record {
      value = fast_always e.address e.batch (code_from (code_of c.args.code.now) e.address e.run) c.reload_count-first.result c.words_of_run.result c.args.word
          c.reload_count-first.ensures.value c.words_of_run.ensures.value c.if-first-word.true c.if-word-first.true;
    }

pub returns-else-first-word : goal.returns-else-first-word
returns-else-first-word c =
    let e = c.args.entry.now in
    let ws = code_from (code_of c.args.code.now) e.address e.run in
    let first = c.reload_count-first.result in
    let reloads = c.reload_count-first.ensures.value in
    elim c.else-first-word.branch [
      | else-first-word-via-then-first-word+else-word-first w ↦ (record {
        value = fast_behind e.address e.batch ws first w.words_of_run.result c.args.word reloads w.words_of_run.ensures.value w.if-first-word.true w.if-word-first.false;
      })
      | else-first-word-via-else-first-word w ↦ (record { value = fast_before e.address e.batch ws first c.args.word reloads w.if-first-word.false })
    ]
