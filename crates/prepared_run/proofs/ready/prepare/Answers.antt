use Rattle.std.proofs.Common.{◌<◌, ◌≤◌, ◌^◌, inl, inr, sym, subst}
use Rattle.std.proofs.lemmas.Result.{err_from_is_err_and}
use Rattle.rewrite_verify.specs.rewriter.RewrittenFile.{rewritten_elf}
use Rattle.judged_files.specs.Code.{choice_of, IsRewritingOf, IsFileOf, IsOtherFile, IsUnchosen}
use Rattle.judged_files.specs.Executables.{IsProgramOf, IsRejection}
use Rattle.text_output.specs.Failures.{IsNever}
use Rattle.judged_files.specs.Given.{bytes_of}
use Rattle.judged_files.specs.Refusals.{IsRunRefused, IsBadRunLayout, IsFaultyLayout}
use Rattle.text_output.proofs.Pieces.{never, refused_too}
use Rattle.prepared_run.proofs.RunLemmas.{AreReady, HaveLaws, are_ready, asked_work, gives_code, gives_runs, laid_over, runs_rewritten}
use Rattle.prepared_run.proofs.ready.prepare.Goals as goal

pub returns-in_err-program-clause-refused : goal.returns-in_err-program-clause-refused
returns-in_err-program-clause-refused c =
    let inputs = bytes_of c.args.inputs.now in
    let n = c.args.nodes in
    let e = err_from_is_err_and c.from_residual.result c.from_residual.ensures.1 in
    rw (e.1, e.2) (refused_too (IsRejection c.args.elf.now) IsNever (IsRunRefused inputs)
    (IsBadRunLayout inputs n) c.in_err-program.field-0.0
    (λ line h. inl (inl (inr (c.args.elf.now, c.requires.reads, h))))
    (never (IsBadRunLayout inputs n)) c.in_err-program.ensures.refused)

pub returns-in_err-rewritten-clause-refused : goal.returns-in_err-rewritten-clause-refused
returns-in_err-rewritten-clause-refused c =
    let inputs = bytes_of c.args.inputs.now in
    let n = c.args.nodes in
    let p = c.in_ok-program.program in
    let executable : IsProgramOf inputs.executable p =
    subst (IsProgramOf inputs.executable) (sym c.in_ok-program.ensures.ok)
    (record { reads = c.requires.reads; accepted = c.in_ok-program.ensures.acceptable }) in
    let e = err_from_is_err_and c.from_residual-in_err-rewritten.result
    c.from_residual-in_err-rewritten.ensures.1 in
    rw (e.1, e.2) (refused_too (IsUnchosen (choice_of inputs.batches inputs.verified) p) IsNever (IsRunRefused inputs)
    (IsBadRunLayout inputs n) c.in_err-rewritten.field-0.0
    (λ line h. inl (inr (p, executable, h))) (never (IsBadRunLayout inputs n))
    c.in_err-rewritten.ensures.refused)

pub returns-in_err-judge_code-clause-refused : goal.returns-in_err-judge_code-clause-refused
returns-in_err-judge_code-clause-refused c =
    let inputs = bytes_of c.args.inputs.now in
    let n = c.args.nodes in
    let p = c.in_ok-program.program in
    let same = sym c.in_ok-program.ensures.ok in
    let image = c.in_ok-rewritten.rewritten.image in
    let plan = c.in_ok-rewritten.rewritten.plan in
    let rewritten : IsRewritingOf (choice_of inputs.batches inputs.verified) inputs.executable p plan image = record {
      executable = subst (IsProgramOf inputs.executable) same
          (record { reads = c.requires.reads; accepted = c.in_ok-program.ensures.acceptable });
      chosen = c.in_ok-rewritten.ensures.chosen;
      rewriting = c.in_ok-rewritten.ensures.rewriting;
    } in
    let e = err_from_is_err_and c.from_residual-in_err-judge_code.result
    c.from_residual-in_err-judge_code.ensures.1 in
    rw (e.1, e.2) (refused_too (IsOtherFile (rewritten_elf c.args.elf.now image plan) inputs.code)
    IsNever (IsRunRefused inputs) (IsBadRunLayout inputs n) c.in_err-judge_code.field-0.0
    (λ line h. inr (record {
      elf = p;
      plan = plan;
      image = image;
      rewritten = rewritten;
      other = subst (λ x. IsOtherFile (rewritten_elf x image plan) inputs.code line) same h;
    })) (never (IsBadRunLayout inputs n)) c.in_err-judge_code.ensures.refused)

pub returns-in_err-layout-clause-refused : goal.returns-in_err-layout-clause-refused
returns-in_err-layout-clause-refused c =
    let inputs = bytes_of c.args.inputs.now in
    let n = c.args.nodes in
    let p = c.in_ok-program.program in
    let same = sym c.in_ok-program.ensures.ok in
    let image = c.in_ok-rewritten.rewritten.image in
    let plan = c.in_ok-rewritten.rewritten.plan in
    let rewritten : IsRewritingOf (choice_of inputs.batches inputs.verified) inputs.executable p plan image = record {
      executable = subst (IsProgramOf inputs.executable) same
          (record { reads = c.requires.reads; accepted = c.in_ok-program.ensures.acceptable });
      chosen = c.in_ok-rewritten.ensures.chosen;
      rewriting = c.in_ok-rewritten.ensures.rewriting;
    } in
    let e = err_from_is_err_and c.from_residual-in_err-layout.result
    c.from_residual-in_err-layout.ensures.1 in
    rw (e.1, e.2) (refused_too IsNever (IsFaultyLayout p inputs.layout n) (IsRunRefused inputs)
    (IsBadRunLayout inputs n) c.in_err-layout.field-0.0 (never (IsRunRefused inputs))
    (λ line faulty. record {
      elf = p;
      plan = plan;
      image = image;
      rewritten = rewritten;
      code = subst (λ x. IsFileOf (rewritten_elf x image plan) inputs.code) same
          c.in_ok-judge_code.ensures.ok;
      faulty = faulty;
    }) c.in_err-layout.ensures.refused)

pub returns-clause-rewritten : goal.returns-clause-rewritten
returns-clause-rewritten c =
    let inputs = bytes_of c.args.inputs.now in
    let p = c.in_ok-program.program in
    let image = c.in_ok-rewritten.rewritten.image in
    let plan = c.in_ok-rewritten.rewritten.plan in
    let layout = c.in_ok-layout.layout in
    let reads : IsProgramOf inputs.executable c.args.elf.now =
    record { reads = c.requires.reads; accepted = c.in_ok-program.ensures.acceptable } in
    let choice = choice_of inputs.batches inputs.verified in
    let ready : AreReady choice inputs.executable p plan image layout =
    are_ready choice inputs.executable c.args.elf.now p plan image layout c.in_ok-program.ensures.ok reads
    c.in_ok-program.ensures.accepted c.in_ok-rewritten.ensures.chosen
    c.in_ok-rewritten.ensures.rewriting
    (laid_over p inputs.layout c.args.nodes layout c.in_ok-layout.ensures.ok)
    c.in_ok-layout.ensures.valid in
    let number = c.number-words.ensures.value in
    runs_rewritten choice inputs.executable c.args.budget p plan image layout ready
    (subst (λ n. 0 < n) number c.number-words.ensures.range.0)
    (subst (λ n. n ≤ 2 ^ 32) number c.number-words.ensures.range.1)

pub returns-clause-runs : goal.returns-clause-runs
returns-clause-runs c =
    let inputs = bytes_of c.args.inputs.now in
    let p = c.in_ok-program.program in
    let image = c.in_ok-rewritten.rewritten.image in
    let plan = c.in_ok-rewritten.rewritten.plan in
    let layout = c.in_ok-layout.layout in
    let reads : IsProgramOf inputs.executable c.args.elf.now =
    record { reads = c.requires.reads; accepted = c.in_ok-program.ensures.acceptable } in
    let choice = choice_of inputs.batches inputs.verified in
    let ready : AreReady choice inputs.executable p plan image layout =
    are_ready choice inputs.executable c.args.elf.now p plan image layout c.in_ok-program.ensures.ok reads
    c.in_ok-program.ensures.accepted c.in_ok-rewritten.ensures.chosen
    c.in_ok-rewritten.ensures.rewriting
    (laid_over p inputs.layout c.args.nodes layout c.in_ok-layout.ensures.ok)
    c.in_ok-layout.ensures.valid in
    let laws : HaveLaws = record {
      law = c.interleaving_law.ensures.interleaves;
      licensed = c.interleaving_law.ensures.licensed;
      coherent = c.interleaving_law.ensures.coherent;
      stopped = c.interleaving_law.ensures.stopped;
      steps = c.bounds_law.ensures.work;
      polls = c.bounds_law.ensures.polls;
      messages = c.bounds_law.ensures.messages;
      waits = c.progress_law.ensures.moves;
      empty = c.progress_law.ensures.over;
    } in
    let code : IsFileOf (rewritten_elf p image plan) inputs.code =
    subst (λ e. IsFileOf (rewritten_elf e image plan) inputs.code) (sym c.in_ok-program.ensures.ok)
    c.in_ok-judge_code.ensures.ok in
    let number = c.number-words.ensures.value in
    let range = c.number-words.ensures.range in
    gives_runs inputs c.args.nodes c.args.budget p plan image layout code c.in_ok-layout.ensures.ok
    (gives_code choice inputs.executable c.args.budget p plan image layout ready
    (subst (λ n. 0 < n) number range.0) (subst (λ n. n ≤ 2 ^ 32) number range.1) laws)

pub returns-clause-asked : goal.returns-clause-asked
returns-clause-asked c =
    let inputs = bytes_of c.args.inputs.now in
    let p = c.in_ok-program.program in
    let image = c.in_ok-rewritten.rewritten.image in
    let plan = c.in_ok-rewritten.rewritten.plan in
    let layout = c.in_ok-layout.layout in
    let reads : IsProgramOf inputs.executable c.args.elf.now =
    record { reads = c.requires.reads; accepted = c.in_ok-program.ensures.acceptable } in
    let choice = choice_of inputs.batches inputs.verified in
    let ready : AreReady choice inputs.executable p plan image layout =
    are_ready choice inputs.executable c.args.elf.now p plan image layout c.in_ok-program.ensures.ok reads
    c.in_ok-program.ensures.accepted c.in_ok-rewritten.ensures.chosen
    c.in_ok-rewritten.ensures.rewriting
    (laid_over p inputs.layout c.args.nodes layout c.in_ok-layout.ensures.ok)
    c.in_ok-layout.ensures.valid in
    let code : IsFileOf (rewritten_elf p image plan) inputs.code =
    subst (λ e. IsFileOf (rewritten_elf e image plan) inputs.code) (sym c.in_ok-program.ensures.ok)
    c.in_ok-judge_code.ensures.ok in
    asked_work inputs c.args.nodes c.args.budget p plan image layout ready code
    c.in_ok-layout.ensures.ok
