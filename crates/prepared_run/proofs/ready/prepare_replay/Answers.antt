use Rattle.std.proofs.Common.{◌<◌, ◌≤◌, ◌^◌, length, inl, inr, sym, subst}
use Rattle.std.proofs.lemmas.Result.{err_from_is_err_and}
use Rattle.replay.specs.run_record.Record.{NamesOtherCode}
use Rattle.judged_files.specs.Code.{choice_of, IsRewritingOf, IsUnchosen}
use Rattle.judged_files.specs.Executables.{IsProgramOf, IsRejection}
use Rattle.text_output.specs.Failures.{IsNever, IsRecordRefusal}
use Rattle.judged_files.specs.Given.{bytes_of}
use Rattle.judged_files.specs.Records.{AreFaultyBlocks, IsFaultyText, IsOtherCode}
use Rattle.prepared_run.specs.Replays.{IsBadReplayLayout, IsReplayRefused}
use Rattle.text_output.proofs.Pieces.{never}
use Rattle.prepared_run.proofs.ReplayLemmas.{asked_for, ready_for, replay_refused, text_refused}
use Rattle.prepared_run.proofs.RunLemmas.{AreReady, HaveLaws, are_ready, laid_over_blocks, runs_rewritten}
use Rattle.prepared_run.proofs.ready.prepare_replay.Goals as goal

pub returns-in_err-program-clause-refused : goal.returns-in_err-program-clause-refused
returns-in_err-program-clause-refused c =
    let inputs = bytes_of c.args.inputs.now in
    let e = err_from_is_err_and c.from_residual.result c.from_residual.ensures.1 in
    rw (e.1, e.2) (replay_refused inputs (IsRejection c.args.elf.now) IsNever
    c.in_err-program.field-0.0 (λ line h. inl (inr (c.args.elf.now, c.requires.reads, h)))
    (never (IsBadReplayLayout inputs)) c.in_err-program.ensures.refused)

pub returns-in_err-kept-clause-refused : goal.returns-in_err-kept-clause-refused
returns-in_err-kept-clause-refused c =
    let inputs = bytes_of c.args.inputs.now in
    let executable : IsProgramOf inputs.executable c.args.elf.now =
    record { reads = c.requires.reads; accepted = c.in_ok-program.ensures.acceptable } in
    let e = err_from_is_err_and c.from_residual-in_err-kept.result
    c.from_residual-in_err-kept.ensures.1 in
    rw (e.1, e.2) (text_refused inputs (IsFaultyText inputs.text) c.in_err-kept.field-0.0
    (λ line h. inl (record { elf = c.args.elf.now; executable = executable; faulty = h }))
    c.in_err-kept.ensures.refused)

pub returns-in_err-rewritten-clause-refused : goal.returns-in_err-rewritten-clause-refused
returns-in_err-rewritten-clause-refused c =
    let inputs = bytes_of c.args.inputs.now in
    let p = c.in_ok-program.program in
    let executable : IsProgramOf inputs.executable p =
    subst (IsProgramOf inputs.executable) (sym c.in_ok-program.ensures.ok)
    (record { reads = c.requires.reads; accepted = c.in_ok-program.ensures.acceptable }) in
    let e = err_from_is_err_and c.from_residual-in_err-rewritten.result
    c.from_residual-in_err-rewritten.ensures.1 in
    rw (e.1, e.2) (replay_refused inputs (IsUnchosen (choice_of c.in_ok-kept.kept.batch inputs.verified) p) IsNever
    c.in_err-rewritten.field-0.0 (λ line h. inr (record {
      elf = p;
      executable = executable;
      kept = c.in_ok-kept.kept;
      text = c.in_ok-kept.ensures.ok;
      unchosen = h;
    })) (never (IsBadReplayLayout inputs)) c.in_err-rewritten.ensures.refused)

pub returns-in_err-judge_words-clause-refused : goal.returns-in_err-judge_words-clause-refused
returns-in_err-judge_words-clause-refused c =
    let inputs = bytes_of c.args.inputs.now in
    let p = c.in_ok-program.program in
    let kept = c.in_ok-kept.kept in
    let image = c.in_ok-rewritten.rewritten.image in
    let plan = c.in_ok-rewritten.rewritten.plan in
    let rewritten : IsRewritingOf (choice_of kept.batch inputs.verified) inputs.executable p plan image = record {
      executable = subst (IsProgramOf inputs.executable) (sym c.in_ok-program.ensures.ok)
          (record { reads = c.requires.reads; accepted = c.in_ok-program.ensures.acceptable });
      chosen = c.in_ok-rewritten.ensures.chosen;
      rewriting = c.in_ok-rewritten.ensures.rewriting;
    } in
    let e = err_from_is_err_and c.from_residual-in_err-judge_words.result
    c.from_residual-in_err-judge_words.ensures.1 in
    rw (e.1, e.2) (text_refused inputs (IsOtherCode kept (length image)) c.in_err-judge_words.field-0.0
    (λ line h. inr (inl (record {
      kept = kept;
      text = c.in_ok-kept.ensures.ok;
      elf = p;
      plan = plan;
      image = image;
      rewritten = rewritten;
      other = h;
    })))
    (subst (λ i. IsRecordRefusal (IsOtherCode kept (length i)) c.in_err-judge_words.field-0.0) c.image.ensures.value
    c.in_err-judge_words.ensures.refused))

pub returns-in_err-layout-clause-refused : goal.returns-in_err-layout-clause-refused
returns-in_err-layout-clause-refused c =
    let inputs = bytes_of c.args.inputs.now in
    let p = c.in_ok-program.program in
    let image = c.in_ok-rewritten.rewritten.image in
    let plan = c.in_ok-rewritten.rewritten.plan in
    let rewritten : IsRewritingOf (choice_of c.in_ok-kept.kept.batch inputs.verified) inputs.executable p plan image =
    record {
      executable = subst (IsProgramOf inputs.executable) (sym c.in_ok-program.ensures.ok)
          (record { reads = c.requires.reads; accepted = c.in_ok-program.ensures.acceptable });
      chosen = c.in_ok-rewritten.ensures.chosen;
      rewriting = c.in_ok-rewritten.ensures.rewriting;
    } in
    let e = err_from_is_err_and c.from_residual-in_err-layout.result
    c.from_residual-in_err-layout.ensures.1 in
    rw (e.1, e.2) (replay_refused inputs IsNever (AreFaultyBlocks p c.in_ok-kept.kept)
    c.in_err-layout.field-0.0 (never (IsReplayRefused inputs)) (λ line h. record {
      kept = c.in_ok-kept.kept;
      text = c.in_ok-kept.ensures.ok;
      elf = p;
      plan = plan;
      image = image;
      rewritten = rewritten;
      same_code = subst (λ i. NamesOtherCode c.in_ok-kept.kept (length i) → ⊥) c.image.ensures.value c.in_ok-judge_words.ensures.ok;
      faulty = h;
    }) c.in_err-layout.ensures.refused)

pub returns-clause-rewritten : goal.returns-clause-rewritten
returns-clause-rewritten c =
    let inputs = bytes_of c.args.inputs.now in
    let p = c.in_ok-program.program in
    let image = c.in_ok-rewritten.rewritten.image in
    let plan = c.in_ok-rewritten.rewritten.plan in
    let layout = c.in_ok-layout.layout in
    let reads : IsProgramOf inputs.executable c.args.elf.now =
    record { reads = c.requires.reads; accepted = c.in_ok-program.ensures.acceptable } in
    let choice = choice_of c.in_ok-kept.kept.batch inputs.verified in
    let ready : AreReady choice inputs.executable p plan image layout =
    are_ready choice inputs.executable c.args.elf.now p plan image layout c.in_ok-program.ensures.ok reads
    c.in_ok-program.ensures.accepted c.in_ok-rewritten.ensures.chosen
    c.in_ok-rewritten.ensures.rewriting
    (laid_over_blocks p c.in_ok-kept.kept layout c.in_ok-layout.ensures.ok)
    c.in_ok-layout.ensures.valid in
    let budget = c.in-Some.ensures in
    runs_rewritten choice inputs.executable c.in-Some.budget p plan image layout ready
    (subst (λ n. 0 < n) (sym budget.0) budget.1.0) (subst (λ n. n ≤ 2 ^ 32) (sym budget.0) budget.1.1)

pub returns-clause-ready : goal.returns-clause-ready
returns-clause-ready c =
    let inputs = bytes_of c.args.inputs.now in
    let p = c.in_ok-program.program in
    let kept = c.in_ok-kept.kept in
    let image = c.in_ok-rewritten.rewritten.image in
    let plan = c.in_ok-rewritten.rewritten.plan in
    let layout = c.in_ok-layout.layout in
    let reads : IsProgramOf inputs.executable c.args.elf.now =
    record { reads = c.requires.reads; accepted = c.in_ok-program.ensures.acceptable } in
    let choice = choice_of c.in_ok-kept.kept.batch inputs.verified in
    let ready : AreReady choice inputs.executable p plan image layout =
    are_ready choice inputs.executable c.args.elf.now p plan image layout c.in_ok-program.ensures.ok reads
    c.in_ok-program.ensures.accepted c.in_ok-rewritten.ensures.chosen
    c.in_ok-rewritten.ensures.rewriting
    (laid_over_blocks p kept layout c.in_ok-layout.ensures.ok) c.in_ok-layout.ensures.valid in
    let laws : HaveLaws = record {
      law = c.interleaving_law.ensures.interleaves;
      licensed = c.interleaving_law.ensures.licensed;
      coherent = c.interleaving_law.ensures.coherent;
      stopped = c.interleaving_law.ensures.stopped;
      steps = c.bounds_law.ensures.work;
      polls = c.bounds_law.ensures.polls;
      messages = c.bounds_law.ensures.messages;
      waits = c.progress_law.ensures.moves;
      empty = c.progress_law.ensures.over;
    } in
    let budget = c.in-Some.ensures in
    ready_for inputs kept p plan image layout c.in-Some.budget ready c.in_ok-kept.ensures.ok
    (subst (λ i. NamesOtherCode kept (length i) → ⊥) c.image.ensures.value c.in_ok-judge_words.ensures.ok)
    c.in_ok-layout.ensures.ok budget.0 (subst (λ n. 0 < n) (sym budget.0) budget.1.0)
    (subst (λ n. n ≤ 2 ^ 32) (sym budget.0) budget.1.1) laws

pub returns-clause-asked : goal.returns-clause-asked
returns-clause-asked c =
    let inputs = bytes_of c.args.inputs.now in
    let p = c.in_ok-program.program in
    let kept = c.in_ok-kept.kept in
    let image = c.in_ok-rewritten.rewritten.image in
    let plan = c.in_ok-rewritten.rewritten.plan in
    let layout = c.in_ok-layout.layout in
    let reads : IsProgramOf inputs.executable c.args.elf.now =
    record { reads = c.requires.reads; accepted = c.in_ok-program.ensures.acceptable } in
    let choice = choice_of c.in_ok-kept.kept.batch inputs.verified in
    let ready : AreReady choice inputs.executable p plan image layout =
    are_ready choice inputs.executable c.args.elf.now p plan image layout c.in_ok-program.ensures.ok reads
    c.in_ok-program.ensures.accepted c.in_ok-rewritten.ensures.chosen
    c.in_ok-rewritten.ensures.rewriting
    (laid_over_blocks p kept layout c.in_ok-layout.ensures.ok) c.in_ok-layout.ensures.valid in
    let budget = c.in-Some.ensures in
    asked_for inputs kept p plan image layout c.in-Some.budget ready c.in_ok-kept.ensures.ok
    (subst (λ i. NamesOtherCode kept (length i) → ⊥) c.image.ensures.value c.in_ok-judge_words.ensures.ok)
    c.in_ok-layout.ensures.ok budget.0
