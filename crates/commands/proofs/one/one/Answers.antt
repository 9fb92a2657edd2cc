use Rattle.std.proofs.Common.{false, [], inl, inr, refl, sym, subst}
use Rattle.std.proofs.lemmas.Result.{err_from_is_err_and}
use Rattle.elf32_read.specs.Elf.{Elf}
use Rattle.exec_map.specs.Contents.{program_of}
use Rattle.rv32_step.specs.OneMemory.{Original}
use Rattle.one_memory.specs.ByOrder.{IsRunByOrder}
use Rattle.dsm_io.specs.States.{SinkState}
use Rattle.node_model.specs.Outcome.{Outcome}
use Rattle.judged_files.specs.Executables.{IsUnaccepted, IsUnread, IsRejection}
use Rattle.judged_files.specs.declared.refusal.Subject.TheVariants.{Executable}
use Rattle.text_output.specs.Failures.{IsNever}
use Rattle.judged_files.specs.Given.{bytes_of}
use Rattle.commands.specs.Headline.{IsOutcomeByOrder, IsTextWith}
use Rattle.judged_files.specs.Layouts.{IsLayoutOfExecutable}
use Rattle.commands.specs.Refusals.{IsBadLayout}
use Rattle.judged_files.specs.Refusals.{IsFaultyLayout}
use Rattle.text_output.proofs.Pieces.{never, refused_first}
use Rattle.commands.proofs.Pieces.{outcome_put, outcome_fails}
use Rattle.commands.proofs.one.one.Goals as goal

pub returns-in_err-elf-clause-failure : goal.returns-in_err-elf-clause-failure
returns-in_err-elf-clause-failure g c =
    let inputs = bytes_of c.args.inputs.now in
    let n = c.args.nodes in
    let state : SinkState = g.O.Sink.state c.args.out.now in
    let e = err_from_is_err_and c.from_residual.result c.from_residual.ensures.1 in
    rw (e.1, e.2) (refused_first (IsTextWith (IsOutcomeByOrder inputs n c.args.order c.args.budget) false)
    (IsUnread Executable inputs.executable) IsNever (IsUnaccepted inputs.executable)
    (IsBadLayout inputs n) state c.in_err-elf.field-0.0 (λ line h. inl h) (never (IsBadLayout inputs n))
    c.in_err-elf.ensures.refused)

pub returns-in_err-program-clause-failure : goal.returns-in_err-program-clause-failure
returns-in_err-program-clause-failure g c =
    let inputs = bytes_of c.args.inputs.now in
    let n = c.args.nodes in
    let state : SinkState = g.O.Sink.state c.args.out.now in
    let e = err_from_is_err_and c.from_residual-in_err-program.result
    c.from_residual-in_err-program.ensures.1 in
    rw (e.1, e.2) (refused_first (IsTextWith (IsOutcomeByOrder inputs n c.args.order c.args.budget) false)
    (IsRejection c.in_ok-elf.elf) IsNever (IsUnaccepted inputs.executable) (IsBadLayout inputs n) state
    c.in_err-program.field-0.0 (λ line h. inr (c.in_ok-elf.elf, c.in_ok-elf.ensures.ok, h))
    (never (IsBadLayout inputs n)) c.in_err-program.ensures.refused)

pub returns-in_err-layout-clause-failure : goal.returns-in_err-layout-clause-failure
returns-in_err-layout-clause-failure g c =
    let inputs = bytes_of c.args.inputs.now in
    let n = c.args.nodes in
    let p = c.in_ok-program.program in
    let state : SinkState = g.O.Sink.state c.args.out.now in
    let e = err_from_is_err_and c.from_residual-in_err-layout.result
    c.from_residual-in_err-layout.ensures.1 in
    rw (e.1, e.2) (refused_first (IsTextWith (IsOutcomeByOrder inputs n c.args.order c.args.budget) false)
    IsNever (IsFaultyLayout p inputs.layout n) (IsUnaccepted inputs.executable) (IsBadLayout inputs n)
    state c.in_err-layout.field-0.0 (never (IsUnaccepted inputs.executable)) (λ line h. record {
      elf = c.in_ok-elf.elf;
      executable = record { reads = c.in_ok-elf.ensures.ok; accepted = c.in_ok-program.ensures.acceptable };
      faulty = subst (λ x. IsFaultyLayout x inputs.layout n line) c.in_ok-program.ensures.ok h;
    }) c.in_err-layout.ensures.refused)

pub returns-clause-ok : goal.returns-clause-ok
returns-clause-ok g c =
    let inputs = bytes_of c.args.inputs.now in
    let n = c.args.nodes in
    let e = c.in_ok-elf.elf in
    let layout = c.in_ok-layout.layout in
    let o : Outcome = record { output = c.deref.result.now; ends = c.deref-2.result.now; counts = [] } in
    let original : Elf → Original = λ (x : Elf). record { program = program_of x; layout = layout; nodes = n } in
    let by_elf : IsRunByOrder (original e) c.args.budget c.args.order c.in_ok-outcome.outcome.output.items c.in_ok-outcome.outcome.ends.items =
    subst (λ x. IsRunByOrder (original x) c.args.budget c.args.order c.in_ok-outcome.outcome.output.items c.in_ok-outcome.outcome.ends.items) c.in_ok-program.ensures.ok c.in_ok-outcome.ensures in
    let by_output : IsRunByOrder (original e) c.args.budget c.args.order o.output c.in_ok-outcome.outcome.ends.items =
    subst (λ x. IsRunByOrder (original e) c.args.budget c.args.order x c.in_ok-outcome.outcome.ends.items) (sym c.deref.ensures.value) by_elf in
    let ordered : IsRunByOrder (original e) c.args.budget c.args.order o.output o.ends =
    subst (λ x. IsRunByOrder (original e) c.args.budget c.args.order o.output x) (sym c.deref-2.ensures.value) by_output in
    let is : IsOutcomeByOrder inputs n c.args.order c.args.budget o = record {
      elf = e;
      executable = record { reads = c.in_ok-elf.ensures.ok; accepted = c.in_ok-program.ensures.acceptable };
      layout = layout;
      laid_out = subst (λ x. IsLayoutOfExecutable x inputs.layout n layout) c.in_ok-program.ensures.ok c.in_ok-layout.ensures.ok;
      ordered = ordered;
      counts = refl;
    } in
    outcome_put (IsOutcomeByOrder inputs n c.args.order c.args.budget) false o
    (g.O.Sink.state c.args.out.now) (g.O.Sink.state c.put_outcome.new.out) c.put_outcome.result is
    c.put_outcome.ensures.ok

pub returns-clause-failure : goal.returns-clause-failure
returns-clause-failure g c =
    let before : SinkState = g.O.Sink.state c.args.out.now in
    let now : SinkState = g.O.Sink.state c.put_outcome.new.out in
    let inputs = bytes_of c.args.inputs.now in
    let n = c.args.nodes in
    let e = c.in_ok-elf.elf in
    let layout = c.in_ok-layout.layout in
    let o : Outcome = record { output = c.deref.result.now; ends = c.deref-2.result.now; counts = [] } in
    let original : Elf → Original = λ (x : Elf). record { program = program_of x; layout = layout; nodes = n } in
    let by_elf : IsRunByOrder (original e) c.args.budget c.args.order c.in_ok-outcome.outcome.output.items c.in_ok-outcome.outcome.ends.items =
    subst (λ x. IsRunByOrder (original x) c.args.budget c.args.order c.in_ok-outcome.outcome.output.items c.in_ok-outcome.outcome.ends.items) c.in_ok-program.ensures.ok c.in_ok-outcome.ensures in
    let by_output : IsRunByOrder (original e) c.args.budget c.args.order o.output c.in_ok-outcome.outcome.ends.items =
    subst (λ x. IsRunByOrder (original e) c.args.budget c.args.order x c.in_ok-outcome.outcome.ends.items) (sym c.deref.ensures.value) by_elf in
    let ordered : IsRunByOrder (original e) c.args.budget c.args.order o.output o.ends =
    subst (λ x. IsRunByOrder (original e) c.args.budget c.args.order o.output x) (sym c.deref-2.ensures.value) by_output in
    let is : IsOutcomeByOrder inputs n c.args.order c.args.budget o = record {
      elf = e;
      executable = record { reads = c.in_ok-elf.ensures.ok; accepted = c.in_ok-program.ensures.acceptable };
      layout = layout;
      laid_out = subst (λ x. IsLayoutOfExecutable x inputs.layout n layout) c.in_ok-program.ensures.ok c.in_ok-layout.ensures.ok;
      ordered = ordered;
      counts = refl;
    } in
    outcome_fails (IsOutcomeByOrder inputs n c.args.order c.args.budget) false
    (IsUnaccepted inputs.executable) (IsBadLayout inputs n) o before now c.put_outcome.result is c.put_outcome.ensures.failure
