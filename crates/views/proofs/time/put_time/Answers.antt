use Rattle.std.proofs.Common.{◌++◌, inl}
use Rattle.std.proofs.lemmas.Result.{err_from_is_err_and}
use Rattle.dsm_core.specs.CoreParts.{outcome_of}
use Rattle.command_line.specs.Views.{time_of}
use Rattle.dsm_io.specs.Causes.{Appends}
use Rattle.dsm_io.specs.States.{SinkState}
use Rattle.text_output.specs.Failures.{FailsAs, IsLike, IsNever, Puts}
use Rattle.text_output.proofs.Pieces.{never, refused_first}
use Rattle.judged_files.specs.Executables.{IsUnread}
use Rattle.judged_files.specs.Given.{bytes_of}
use Rattle.judged_files.specs.Refusals.{IsBadRunLayout, IsRunRefused}
use Rattle.judged_files.specs.declared.refusal.Subject.TheVariants.{Executable}
use Rattle.prepared_run.specs.Outcomes.{text_of}
use Rattle.prepared_run.specs.Ready.{work_for}
use Rattle.views.specs.Failures.{IsTextOfTime}
use Rattle.views.specs.Time.{IsTimeText, costs_of, time_text}
use Rattle.views.proofs.Timed.{is_of_time, time_puts, time_unput}
use Rattle.views.proofs.Viewed.{err_as, on_ok_as}
use Rattle.views.proofs.time.put_time.Goals as goal

pub returns-in_err-elf-clause-failure : goal.returns-in_err-elf-clause-failure
returns-in_err-elf-clause-failure g c =
    let a = time_of c.args.arguments.now in
    let inputs = bytes_of c.args.inputs.now in
    let state : SinkState = g.O.Sink.state c.args.out.now in
    let e = err_from_is_err_and c.from_residual.result c.from_residual.ensures.1 in
    rw (e.1, e.2) (refused_first (IsTextOfTime inputs a) (IsUnread Executable inputs.executable) IsNever
    (IsRunRefused inputs) (IsBadRunLayout inputs a.nodes) state c.in_err-elf.field-0.0 (λ line h. inl (inl (inl h)))
    (never (IsBadRunLayout inputs a.nodes)) c.in_err-elf.ensures.refused)

pub returns-in_err-prepared-clause-failure : goal.returns-in_err-prepared-clause-failure
returns-in_err-prepared-clause-failure g c =
    let a = time_of c.args.arguments.now in
    let inputs = bytes_of c.args.inputs.now in
    let state : SinkState = g.O.Sink.state c.args.out.now in
    let e = err_from_is_err_and c.from_residual-in_err-prepared.result c.from_residual-in_err-prepared.ensures.1 in
    rw (e.1, e.2) (refused_first (IsTextOfTime inputs a) (IsRunRefused inputs) (IsBadRunLayout inputs a.nodes)
    (IsRunRefused inputs) (IsBadRunLayout inputs a.nodes) state c.in_err-prepared.field-0.0 (λ line h. h)
    (λ line h. h) c.in_err-prepared.ensures.refused)

pub returns-clause-ok : goal.returns-clause-ok
returns-clause-ok g c =
    let a = time_of c.args.arguments.now in
    let inputs = bytes_of c.args.inputs.now in
    let before : SinkState = g.O.Sink.state c.args.out.now in
    let now : SinkState = g.O.Sink.state c.put_timed.new.out in
    let p = c.in_ok-prepared.prepared in
    let work = work_for p in
    let t = c.in_ok-timed.timed in
    let o = outcome_of t.outcome in
    let text = text_of o ++ time_text t.spent.items t.steps t.time in
    let is : IsTimeText inputs a.nodes a.budget (costs_of a) text =
    is_of_time inputs a.nodes a.budget (costs_of a) p.program p.rewritten.plan work o t.spent.items t.time t.steps
    c.in_ok-prepared.ensures.runs c.in_ok-prepared.ensures.asked c.in_ok-timed.ensures.outcome
    c.in_ok-timed.ensures.sums in
    on_ok_as (Appends before.taken now.taken text) (Puts (IsTextOfTime inputs a) 0 before now) c.put_timed.result
    (time_puts inputs a text before now is) c.put_timed.ensures.ok

pub returns-clause-failure : goal.returns-clause-failure
returns-clause-failure g c =
    let a = time_of c.args.arguments.now in
    let inputs = bytes_of c.args.inputs.now in
    let before : SinkState = g.O.Sink.state c.args.out.now in
    let now : SinkState = g.O.Sink.state c.put_timed.new.out in
    let p = c.in_ok-prepared.prepared in
    let work = work_for p in
    let t = c.in_ok-timed.timed in
    let o = outcome_of t.outcome in
    let text = text_of o ++ time_text t.spent.items t.steps t.time in
    let is : IsTimeText inputs a.nodes a.budget (costs_of a) text =
    is_of_time inputs a.nodes a.budget (costs_of a) p.program p.rewritten.plan work o t.spent.items t.time t.steps
    c.in_ok-prepared.ensures.runs c.in_ok-prepared.ensures.asked c.in_ok-timed.ensures.outcome
    c.in_ok-timed.ensures.sums in
    err_as (FailsAs (IsLike text) IsNever IsNever before now)
    (FailsAs (IsTextOfTime inputs a) (IsRunRefused inputs) (IsBadRunLayout inputs a.nodes) before now)
    c.put_timed.result (λ f h. time_unput inputs a text before now f is h) c.put_timed.ensures.failure
