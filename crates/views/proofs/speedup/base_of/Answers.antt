use Rattle.std.proofs.lemmas.Result.{err_from_is_err_and}
use Rattle.prepared_run.specs.Ready.{work_for}
use Rattle.views.proofs.speedup.base_of.Goals as goal

pub returns-in_err-prepared-clause-refused : goal.returns-in_err-prepared-clause-refused
returns-in_err-prepared-clause-refused c =
    let e = err_from_is_err_and c.from_residual.result c.from_residual.ensures.1 in
    rw (e.1, e.2) c.in_err-prepared.ensures.refused

pub returns-clause-ok : goal.returns-clause-ok
returns-clause-ok c =
    let p = c.in_ok-prepared.prepared in
    record {
      elf = p.program;
      plan = p.rewritten.plan;
      work = work_for p;
      asked = c.in_ok-prepared.ensures.asked;
      steps = c.in_ok-run.run'.steps;
      end = c.in_ok-run.run'.end;
      is_run = c.in_ok-run.ensures;
      base_is = c.base_from.ensures;
    }
